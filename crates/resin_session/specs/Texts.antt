-- Session texts: what is kept of an array from one request of a visitor to the next (this project).
use Rattle.std.specs.Prelude.{ℕ, Bool, true, false, List, [], ◌∷◌, ◌++◌, length, decimal}
use Rattle.std.specs.Fmt.{signed_decimal}
use Rattle.std.specs.List.{flat_map}
use Rattle.resin_value.specs.Under.label.Sets.{empty as no_labels}
use Rattle.resin_value.specs.Under.lstr.Texts.{Text, carrying}
use Rattle.resin_value.specs.declared.key.Key.{Key}
use Rattle.resin_value.specs.declared.key.Key.TheVariants.{Int, Text as TextKey}
use Rattle.resin_value.specs.Trees.{Tree, null, boolean, integer, text, array, object}
use Rattle.resin_value.specs.Arrays.{EntryList}

-- integers and texts alone are kept
abbrev pub is_storable : Tree → Bool
is_storable null = false
is_storable (boolean b) = false
is_storable (integer n s) = true
is_storable (text t) = true
is_storable (array r l h) = false
is_storable (object n) = false

-- the letter of a value's kind: `i` of an integer, `s` of a text
abbrev pub letter : Tree → ℕ
letter null = 115
letter (boolean b) = 115
letter (integer n s) = 105
letter (text t) = 115
letter (array r l h) = 115
letter (object n) = 115

-- a value as a text; the digits of an integer, and its `-`, all carry its set. Other values are never written
abbrev pub value_text : Tree → Text
value_text null = []
value_text (boolean b) = []
value_text (integer n s) = carrying s (signed_decimal n)
value_text (text t) = t
value_text (array r l h) = []
value_text (object n) = []

abbrev pub key_text : Key → List ℕ
key_text (Int n) = signed_decimal n
key_text (TextKey w) = w

-- what stands before a value: the letter of its kind, the lengths of its key and of itself, a newline, and the key
abbrev pub head_text : ℕ → List ℕ → ℕ → List ℕ
head_text kind key len = kind ∷ 32 ∷ decimal (length key) ++ (32 ∷ decimal len ++ 10 ∷ key)

-- an entry: what stands before its value, the value, and a newline. No bytes but those of the value carry labels
abbrev pub entry_text : Key × Tree → Text
entry_text e =
    carrying no_labels (head_text (letter e.1) (key_text e.0) (length (value_text e.1)))
    ++ (value_text e.1 ++ carrying no_labels (10 ∷ []))

-- the entries in their order
abbrev pub session_text : EntryList → Text
session_text es = flat_map entry_text es
