-- The words of SQL as forms: blanks, keywords, names.
--
-- A form chooses by the next byte alone. Whoever takes a word takes the blanks behind it too, and tells whether a word
-- may follow: two words, or a word and digits, may not run together.
use Rattle.std.specs.Prelude.{ℕ, Bool, true, false, ◌&&◌, ◌||◌, ◌==◌, nat_eq, nat_lt, List, [], ◌∷◌, ◌++◌, length, codes}
use Rattle.std.specs.List.{ends_with}
use Rattle.resin_form.specs.Form.{give, next, many, taken}
use Rattle.resin_scan.specs.Bytes.{is_blank, is_letter, is_word_byte, lower}
use Rattle.resin_scan.specs.Words.{spells}
use Rattle.resin_sql_words.specs.Forms.{Rule, Behind, ◌>>=◌, ◌>>◌, either, never, within}

-- blanks, and whether there are any, where some may stand before
unfoldable pub gap_from : Bool → Rule Bool
gap_from some = many (λ _ t. is_blank t.byte) (λ _ _. taken (give true)) some

-- blanks, and whether there are any
unfoldable pub gap : Rule Bool
gap = gap_from false

-- the letters of a keyword, given in lower case, in any case
unfoldable pub letters : List ℕ → Rule (Unit {0})
letters [] = give tt
letters (k ∷ ks) = next (λ t. lower t.byte == k) (λ _. taken (letters ks))

-- The other letters of a keyword and the blanks behind it: whether there are any. The keyword's first letter is the
-- choice that led here.
unfoldable pub word : List ℕ → Rule Bool
word ks = letters ks >> gap

-- a keyword by its first letter and the others, where a word may begin (`free`), and the blanks behind it
unfoldable pub keyword : Bool → ℕ → List ℕ → Rule Bool
keyword free k ks = next (λ t. lower t.byte == k && free) (λ _. taken (word ks))

-- a byte that stands for itself, and the blanks behind it
unfoldable pub sign : ℕ → Rule Bool
sign b = next (λ t. t.byte == b) (λ _. taken gap)

-- ---- names

abbrev pub begins_statement : List ℕ → Bool
begins_statement w =
    spells (codes "create") w || spells (codes "insert") w || spells (codes "select") w || spells (codes "update") w || spells (codes "delete") w

abbrev pub is_object_word : List ℕ → Bool
is_object_word w =
    spells (codes "table") w || spells (codes "integer") w || spells (codes "text") w
    || spells (codes "into") w || spells (codes "values") w || spells (codes "set") w

abbrev pub is_clause_word : List ℕ → Bool
is_clause_word w =
    spells (codes "from") w || spells (codes "where") w || spells (codes "order") w || spells (codes "by") w
    || spells (codes "asc") w || spells (codes "desc") w || spells (codes "limit") w

abbrev pub is_test_word : List ℕ → Bool
is_test_word w =
    spells (codes "and") w || spells (codes "or") w || spells (codes "is") w || spells (codes "not") w || spells (codes "null") w

-- the keywords, in any case
abbrev pub is_keyword : List ℕ → Bool
is_keyword w = begins_statement w || is_object_word w || is_clause_word w || is_test_word w

-- The keywords are no names, nor is what ends as the columns of shadow texts do. A longer word may be a name.
abbrev pub is_reserved : List ℕ → Bool
is_reserved w = is_keyword w || ends_with nat_eq w (codes "__resin")

unfoldable pub lawful : List ℕ → Rule (List ℕ)
lawful w = either (is_reserved w) (never w) (give w)

-- The bytes of a name go on as long as they can; the 65th is beyond the limit.
unfoldable pub name_step : List ℕ → ℕ → Behind (List ℕ)
name_step w b = within (nat_lt (length w) 64) (give (w ++ b ∷ []))

unfoldable pub more_of_name : List ℕ → Rule (List ℕ)
more_of_name w = many (λ _ t. is_word_byte t.byte) (λ w t. name_step w t.byte) w

-- a name, whose first byte is given
unfoldable pub name : ℕ → Rule (List ℕ)
name b = more_of_name (b ∷ []) >>= lawful

-- a value, and whether a word may follow
abbrev pub Ended : Type 0 → Type 0
Ended A = A × Bool

-- a name, whose first byte is given, and the blanks behind it
unfoldable pub name_from : ℕ → Rule (Ended (List ℕ))
name_from b = name b >>= λ w. gap >>= λ g. give (w, g)

-- a name, where a word may begin
unfoldable pub named : Bool → Rule (Ended (List ℕ))
named free = next (λ t. is_letter t.byte && free) (λ t. taken (name_from t.byte))
