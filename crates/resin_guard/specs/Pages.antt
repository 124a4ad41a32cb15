-- Pages, as forms over bytes. (This project's own profile of HTML. It asks for more than browsers do, so that a page has one reading.)
--
-- A page is items: data, comments `<!--` up to the first `-->`, doctypes `<!doctype` up to the first `>`, raw elements and tags.
-- A form's value has the places that are safe: ranges of offsets of data, and of values of harmless attributes.
use Rattle.std.specs.Prelude.{ℕ, ◌+◌, ◌-◌, Bool, true, false, not, ◌&&◌, ◌||◌, ◌==◌, nat_eq, nat_lt, nat_le}
use Rattle.std.specs.Prelude.{List, [], ◌∷◌, ◌++◌, length, get_or, codes, if◌then◌else◌}
use Rattle.std.specs.List.{starts_with}
use Rattle.resin_form.specs.Form.{give, next, maybe, many, taken}
use Rattle.resin_scan.specs.Bytes.{is_digit, lower}
use Rattle.resin_scan.specs.Words.{spells}
use Rattle.resin_sql_words.specs.Forms.{Rule, ◌>>=◌, ◌>>◌, either, never}
use Rattle.resin_sql_words.specs.Words.{letters}
use Rattle.resin_sql_words.specs.declared.cursor.Placed.{Placed}

-- ---- bytes and names

-- space, tab, CR, LF and FF
abbrev pub is_blank : ℕ → Bool
is_blank b = b == 32 || b == 9 || b == 13 || b == 10 || b == 12

-- an ASCII letter
abbrev pub is_alphabetic : ℕ → Bool
is_alphabetic b = nat_le 97 (lower b) && nat_le (lower b) 122

-- what goes on with a name: letters, digits and `-`, and in that of an attribute `_` and `:`
abbrev pub is_name_byte : Bool → ℕ → Bool
is_name_byte of_attribute b = is_alphabetic b || is_digit b || b == 45 || (of_attribute && (b == 95 || b == 58))

-- one byte more, in lower case
unfoldable pub longer : List ℕ → ℕ → Rule (List ℕ)
longer w b = give (w ++ lower b ∷ [])

unfoldable pub more_of_name : Bool → List ℕ → Rule (List ℕ)
more_of_name of_attribute w = many (λ _ t. is_name_byte of_attribute t.byte) (λ w t. taken (longer w t.byte)) w

-- a name, whose first byte is given, in lower case
unfoldable pub name : Bool → ℕ → Rule (List ℕ)
name of_attribute b = more_of_name of_attribute (lower b ∷ [])

-- the names of raw elements, whose text is code
abbrev pub is_raw : List ℕ → Bool
is_raw w = spells (codes "script") w || spells (codes "style") w

-- the names of attributes whose values are code or addresses
abbrev pub is_harmful : List ℕ → Bool
is_harmful w =
    starts_with nat_eq w (codes "on") || spells (codes "style") w || spells (codes "href") w || spells (codes "src") w
    || spells (codes "action") w || spells (codes "formaction") w

-- ---- stretches

unfoldable pub blanks : Rule (Unit {0})
blanks = many (λ _ t. is_blank t.byte) (λ _ _. taken (give tt)) tt

-- the byte that must come
unfoldable pub byte : ℕ → Rule (Unit {0})
byte b = next (λ t. t.byte == b) (λ _. taken (give tt))

-- the bytes before the next b: the offset behind them, where they begin at this offset
unfoldable pub before : ℕ → ℕ → Rule ℕ
before b to = many (λ _ t. not (t.byte == b)) (λ _ t. taken (give (t.at + 1))) to

-- what may end only once it is done
abbrev pub ended : Bool → Rule (Unit {0})
ended done = either done (give tt) (never tt)

-- ---- comments, doctypes and raw text: each up to the first place where its end stands

-- how many bytes of `-->` the bytes of a comment end with
abbrev pub comment_step : ℕ → ℕ → ℕ
comment_step n b = if b == 45 then (if n == 0 then 1 else 2) else (if b == 62 && n == 2 then 3 else 0)

unfoldable pub comment_from : ℕ → Rule ℕ
comment_from n = many (λ n _. nat_lt n 3) (λ n t. taken (give (comment_step n t.byte))) n

-- behind `<!--`
unfoldable pub comment : Rule (Unit {0})
comment = comment_from 0 >>= λ n. ended (n == 3)

-- behind `<!d`
unfoldable pub doctype : Rule (Unit {0})
doctype = letters (codes "octype") >> before 62 0 >> byte 62

-- the n-th byte of `</` and a name
abbrev pub end_byte : List ℕ → ℕ → ℕ
end_byte w n = if n == 0 then 60 else (if n == 1 then 47 else get_or w (n - 2) 0)

-- how many bytes of `</` and the name the raw text ends with, in any case
abbrev pub raw_step : List ℕ → ℕ → ℕ → ℕ
raw_step w n b = if lower b == end_byte w n then n + 1 else (if b == 60 then 1 else 0)

unfoldable pub raw_from : List ℕ → ℕ → Rule ℕ
raw_from w n = many (λ n _. nat_lt n (length w + 2)) (λ n t. taken (give (raw_step w n t.byte))) n

-- behind an opening tag of this name: the raw text and the closing tag
unfoldable pub raw : List ℕ → Rule (Unit {0})
raw w = raw_from w 0 >>= λ n. ended (n == length w + 2) >> blanks >> byte 62

-- ---- safe places

-- ranges of offsets: the first, and the one behind the last
abbrev pub Places : Type 0
Places = List (ℕ × ℕ)

-- one more
unfoldable pub put : Places → ℕ → ℕ → Rule Places
put places from to = give (places ++ (from, to) ∷ [])

-- ---- tags

-- a value behind its opening quote, which is given
unfoldable pub quoted : Bool → Places → Placed → Rule Places
quoted safe places t = before t.byte (t.at + 1) >>= λ to. byte t.byte >> either safe (put places (t.at + 1) to) (give places)

-- a value behind `=`
unfoldable pub value : Bool → Places → Rule Places
value safe places = next (λ t. t.byte == 34 || t.byte == 39) (λ t. taken (quoted safe places t))

-- `=` and a value, or nothing
unfoldable pub valued : Bool → Places → Rule Places
valued safe places = maybe (λ t. t.byte == 61) (λ _. taken (value safe places)) places

-- an attribute, whose first byte is given; `safe`: it may have a safe value
unfoldable pub attribute : Bool → Places → ℕ → Rule Places
attribute safe places b = name true b >>= λ w. valued (safe && not (is_harmful w)) places

-- the safe values so far, and whether blanks stand right before
abbrev pub Attributes : Type 0
Attributes = Places × Bool

unfoldable pub blank_or_attribute : Bool → Places → ℕ → Rule Attributes
blank_or_attribute safe places b = either (is_blank b) (give (places, true)) (attribute safe places b >>= λ ps. give (ps, false))

-- attributes have blanks before them
abbrev pub is_next : Bool → ℕ → Bool
is_next gap b = is_blank b || (is_alphabetic b && gap)

-- attributes with blanks before each of them, and blanks behind them
unfoldable pub attributes : Bool → Attributes → Rule Attributes
attributes safe s = many (λ s t. is_next s.1 t.byte) (λ s t. taken (blank_or_attribute safe s.0 t.byte)) s

-- a `/`, or nothing
unfoldable pub slash : Rule (Unit {0})
slash = maybe (λ t. t.byte == 47) (λ _. taken (give tt)) tt

-- a tag behind its name
unfoldable pub tag_end : Bool → Places → Rule Places
tag_end safe places = attributes safe (places, false) >>= λ s. slash >> byte 62 >> give s.0

-- a closing tag, whose name's first byte is given; that of a raw element stands only where its raw text ends
unfoldable pub closing_from : Places → ℕ → Rule Places
closing_from places b = name false b >>= λ w. either (is_raw w) (never places) (tag_end true places)

-- behind `</`
unfoldable pub closing : Places → Rule Places
closing places = next (λ t. is_alphabetic t.byte) (λ t. taken (closing_from places t.byte))

-- behind an opening tag of this name: the rest of a raw element
unfoldable pub behind_opening : List ℕ → Places → Rule Places
behind_opening w places = either (is_raw w) (raw w >> give places) (give places)

-- an opening tag, whose name's first byte is given, and what it begins
unfoldable pub opening : Places → ℕ → Rule Places
opening places b = name false b >>= λ w. tag_end (not (is_raw w)) places >>= behind_opening w

-- ---- items

-- a comment or a doctype by the byte behind `<!`
unfoldable pub declared_from : ℕ → Rule (Unit {0})
declared_from b = either (b == 45) (byte 45 >> comment) doctype

-- behind `<!`
unfoldable pub declared : Rule (Unit {0})
declared = next (λ t. t.byte == 45 || lower t.byte == 100) (λ t. taken (declared_from t.byte))

abbrev pub begins_item : ℕ → Bool
begins_item b = b == 33 || b == 47 || is_alphabetic b

unfoldable pub item_from : Places → ℕ → Rule Places
item_from places b = either (b == 33) (declared >> give places) (either (b == 47) (closing places) (opening places b))

-- behind `<`
unfoldable pub item : Places → Rule Places
item places = next (λ t. begins_item t.byte) (λ t. taken (item_from places t.byte))

-- data, whose first byte is given
unfoldable pub text : Places → Placed → Rule Places
text places t = before 60 (t.at + 1) >>= λ to. put places t.at to

unfoldable pub piece : Places → Placed → Rule Places
piece places t = either (t.byte == 60) (item places) (text places t)

unfoldable pub page : Places → Rule Places
page places = many (λ _ _. true) (λ ps t. taken (piece ps t)) places
