-- Pages by their items, as they are written: data, and markup with data behind it.
use Rattle.std.specs.Prelude.{◌≡◌, ℕ, ◌+◌, Bool, true, false, not, ◌&&◌, ◌||◌, ◌==◌, nat_lt, List, [], ◌∷◌, ◌++◌, length, map}
use Rattle.resin_scan.specs.Bytes.{lower}
use Rattle.resin_scan.specs.Lists.{Every}
use Rattle.resin_scan.specs.Words.{spells}
use Rattle.std.specs.Prelude.{codes}
use Rattle.resin_guard.specs.Pages.{is_blank, is_alphabetic, is_name_byte, is_raw, is_harmful, comment_step, raw_step, Places}

-- the value of an attribute: none, or bytes between a quote and the same quote
pub data Value : Type 0 where
  none : Value
  quoted : ℕ → List ℕ → Value

-- what stands behind the name of a tag
pub data Part : Type 0 where
  blank : ℕ → Part
  attribute : List ℕ → Value → Part

-- a tag from its name on
pub record Tag : Type 0 where
  pub name : List ℕ
  pub parts : List Part
  pub slash : Bool

pub data Markup : Type 0 where
  -- what stands behind `<!--`
  comment : List ℕ → Markup
  -- the word behind `<!`, and what stands between it and the `>`
  doctype : List ℕ → List ℕ → Markup
  closing : Tag → Markup
  opening : Tag → Markup
  -- an opening tag, the raw text with `</` and the name that end it, and blanks
  raw : Tag → List ℕ → List ℕ → Markup

-- markup, the data behind it, and further items
pub data Items : Type 0 where
  end : Items
  item : Markup → List ℕ → Items → Items

pub record Page : Type 0 where
  -- the data in front
  pub data_first : List ℕ
  pub items : Items

-- ---- as they are written, with what is written behind them

abbrev pub write_value : Value → List ℕ → List ℕ
write_value none r = r
write_value (quoted q w) r = 61 ∷ q ∷ (w ++ q ∷ r)

abbrev pub write_part : Part → List ℕ → List ℕ
write_part (blank b) r = b ∷ r
write_part (attribute n v) r = n ++ write_value v r

abbrev pub write_parts : List Part → List ℕ → List ℕ
write_parts [] r = r
write_parts (p ∷ ps) r = write_part p (write_parts ps r)

abbrev pub write_slash : Bool → List ℕ → List ℕ
write_slash true r = 47 ∷ r
write_slash false r = r

abbrev pub write_tag : Tag → List ℕ → List ℕ
write_tag t r = t.name ++ write_parts t.parts (write_slash t.slash (62 ∷ r))

abbrev pub write_markup : Markup → List ℕ → List ℕ
write_markup (comment u) r = 60 ∷ 33 ∷ 45 ∷ 45 ∷ (u ++ r)
write_markup (doctype w u) r = 60 ∷ 33 ∷ (w ++ (u ++ 62 ∷ r))
write_markup (closing t) r = 60 ∷ 47 ∷ write_tag t r
write_markup (opening t) r = 60 ∷ write_tag t r
write_markup (raw t u bs) r = 60 ∷ write_tag t (u ++ (bs ++ 62 ∷ r))

abbrev pub write_items : Items → List ℕ
write_items end = []
write_items (item m d more) = write_markup m (d ++ write_items more)

abbrev pub written : Page → List ℕ
written p = p.data_first ++ write_items p.items

-- ---- which are lawful

-- a letter, and bytes of a name
abbrev pub IsName : Bool → List ℕ → Type 0
IsName of_attribute [] = ⊥
IsName of_attribute (b ∷ w) = (is_alphabetic b ≡ true) × Every (is_name_byte of_attribute) w

-- a byte of data
abbrev pub is_data : ℕ → Bool
is_data b = not (b == 60)

abbrev pub is_quote : ℕ → Bool
is_quote b = b == 34 || b == 39

abbrev pub IsValue : Value → Type 0
IsValue none = Unit {0}
IsValue (quoted q w) = (is_quote q ≡ true) × Every (λ b. not (b == q)) w

-- each attribute stands behind a blank
abbrev pub AreParts : Bool → List Part → Type 0
AreParts gap [] = Unit {0}
AreParts gap (blank b ∷ ps) = (is_blank b ≡ true) × AreParts true ps
AreParts gap (attribute n v ∷ ps) = (gap ≡ true) × IsName true n × IsValue v × AreParts false ps

-- the name of a tag is that of a raw element, or not
abbrev pub IsTag : Bool → Tag → Type 0
IsTag of_raw t = IsName false t.name × (is_raw (map lower t.name) ≡ of_raw) × AreParts false t.parts

-- bytes by which a count goes from n to one that is final, and not before
abbrev pub ends : (ℕ → Bool) → (ℕ → ℕ → ℕ) → (ℕ → Bool) → ℕ → List ℕ → Bool
ends is_open step is_final n [] = is_final n
ends is_open step is_final n (b ∷ u) = is_open n && ends is_open step is_final (step n b) u

-- the bytes end with `-->`, and no shorter front of them does
abbrev pub ends_comment : List ℕ → Bool
ends_comment u = ends (λ n. nat_lt n 3) comment_step (λ n. n == 3) 0 u

-- the same with `</` and a name, in any case
abbrev pub ends_raw : List ℕ → List ℕ → Bool
ends_raw w u = ends (λ n. nat_lt n (length w + 2)) (raw_step w) (λ n. n == length w + 2) 0 u

abbrev pub IsMarkup : Markup → Type 0
IsMarkup (comment u) = ends_comment u ≡ true
IsMarkup (doctype w u) = (spells (codes "doctype") w ≡ true) × Every (λ b. not (b == 62)) u
IsMarkup (closing t) = IsTag false t
IsMarkup (opening t) = IsTag false t
IsMarkup (raw t u bs) = IsTag true t × (ends_raw (map lower t.name) u ≡ true) × Every is_blank bs

abbrev pub AreItems : Items → Type 0
AreItems end = Unit {0}
AreItems (item m d more) = IsMarkup m × Every is_data d × AreItems more

abbrev pub IsLawful : Page → Type 0
IsLawful p = Every is_data p.data_first × AreItems p.items

-- ---- how many bytes are written, and where the safe places are

abbrev pub value_length : Value → ℕ
value_length none = 0
value_length (quoted q w) = length w + 3

abbrev pub part_length : Part → ℕ
part_length (blank b) = 1
part_length (attribute n v) = length n + value_length v

abbrev pub parts_length : List Part → ℕ
parts_length [] = 0
parts_length (p ∷ ps) = part_length p + parts_length ps

abbrev pub slash_length : Bool → ℕ
slash_length true = 1
slash_length false = 0

abbrev pub tag_length : Tag → ℕ
tag_length t = length t.name + parts_length t.parts + slash_length t.slash + 1

abbrev pub markup_length : Markup → ℕ
markup_length (comment u) = length u + 4
markup_length (doctype w u) = length w + length u + 3
markup_length (closing t) = tag_length t + 2
markup_length (opening t) = tag_length t + 1
markup_length (raw t u bs) = tag_length t + length u + length bs + 2

-- `n`: the offset at which it begins; `safe`: an attribute may have a safe value there
abbrev pub value_places : Bool → ℕ → Value → Places
value_places safe n none = []
value_places true n (quoted q w) = (n + 2, n + 2 + length w) ∷ []
value_places false n (quoted q w) = []

abbrev pub part_places : Bool → ℕ → Part → Places
part_places safe n (blank b) = []
part_places safe n (attribute w v) = value_places (safe && not (is_harmful (map lower w))) (n + length w) v

abbrev pub parts_places : Bool → ℕ → List Part → Places
parts_places safe n [] = []
parts_places safe n (p ∷ ps) = part_places safe n p ++ parts_places safe (n + part_length p) ps

abbrev pub tag_places : Bool → ℕ → Tag → Places
tag_places safe n t = parts_places safe (n + length t.name) t.parts

abbrev pub markup_places : ℕ → Markup → Places
markup_places n (comment u) = []
markup_places n (doctype w u) = []
markup_places n (closing t) = tag_places true (n + 2) t
markup_places n (opening t) = tag_places true (n + 1) t
markup_places n (raw t u bs) = []

abbrev pub data_places : ℕ → List ℕ → Places
data_places n [] = []
data_places n (b ∷ d) = (n, n + length (b ∷ d)) ∷ []

abbrev pub items_places : ℕ → Items → Places
items_places n end = []
items_places n (item m d more) = markup_places n m ++ (data_places (n + markup_length m) d ++ items_places (n + markup_length m + length d) more)

abbrev pub places_at : ℕ → Page → Places
places_at n p = data_places n p.data_first ++ items_places (n + length p.data_first) p.items

abbrev pub safe_places : Page → Places
safe_places p = places_at 0 p

-- ---- the same items, apart from data and safe values

-- other data
abbrev pub OtherData : List ℕ → Type 0
OtherData d = Every is_data d

abbrev pub OtherValue : Bool → Value → Value → Type 0
OtherValue true (quoted q w) (quoted p v) = (p ≡ q) × Every (λ b. not (b == q)) v
OtherValue safe v w = w ≡ v

abbrev pub OtherParts : Bool → List Part → List Part → Type 0
OtherParts safe [] [] = Unit {0}
OtherParts safe (attribute n v ∷ ps) (attribute m w ∷ qs) = (m ≡ n) × OtherValue (safe && not (is_harmful (map lower n))) v w × OtherParts safe ps qs
OtherParts safe (blank b ∷ ps) (blank c ∷ qs) = (c ≡ b) × OtherParts safe ps qs
OtherParts safe ps qs = ⊥

abbrev pub OtherTag : Tag → Tag → Type 0
OtherTag t u = (u.name ≡ t.name) × OtherParts true t.parts u.parts × (u.slash ≡ t.slash)

abbrev pub OtherMarkup : Markup → Markup → Type 0
OtherMarkup (closing t) (closing u) = OtherTag t u
OtherMarkup (opening t) (opening u) = OtherTag t u
OtherMarkup m k = k ≡ m

abbrev pub OtherItems : Items → Items → Type 0
OtherItems end end = Unit {0}
OtherItems (item m d more) (item k e others) = OtherMarkup m k × OtherData e × OtherItems more others
OtherItems is js = ⊥

-- q is p with other data, which holds no `<`, and other safe values, which don't hold their quotes
abbrev pub Refilled : Page → Page → Type 0
Refilled p q = OtherData q.data_first × OtherItems p.items q.items

-- a page has items, and with other data and safe values it is a page with the same ones
abbrev pub KeepsItems : (List ℕ → Places → Type 0) → Type 0
KeepsItems IsPage = (bytes : List ℕ) (places : Places) → IsPage bytes places
    → (p : Page) × IsLawful p × (written p ≡ bytes) × (safe_places p ≡ places)
    × ((q : Page) → Refilled p q → IsLawful q × IsPage (written q) (safe_places q))
