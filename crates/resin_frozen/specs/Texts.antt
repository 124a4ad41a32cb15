-- Policy texts: a class and its fields as PHP's `serialize` writes an object with public properties (PHP manual, `serialize`). Labels inside the
-- fields have no place there, and an array is its entries alone.
use Rattle.std.specs.Prelude.{ℕ, ℤ, Bool, true, false, List, [], ◌∷◌, ◌++◌, length, codes, decimal}
use Rattle.std.specs.Fmt.{signed_decimal}
use Rattle.resin_value.specs.Under.lstr.Texts.{bytes_of}
use Rattle.resin_value.specs.declared.key.Key.{Key}
use Rattle.resin_value.specs.declared.key.Key.TheVariants.{Int, Text}
use Rattle.resin_value.specs.Trees.{Tree, Row, null, boolean, integer, text, array, object, no_entry, entry}
use Rattle.resin_value.specs.Arrays.{EntryList, row_of, entries_of}

-- bytes behind their count: `n:"bytes"`
abbrev pub quoted : List ℕ → List ℕ
quoted w = decimal (length w) ++ (58 ∷ 34 ∷ w ++ 34 ∷ [])

-- pairs behind their count: `n:{pairs}`
abbrev pub braced : ℕ → List ℕ → List ℕ
braced n pairs = decimal n ++ (58 ∷ 123 ∷ pairs ++ 125 ∷ [])

abbrev pub integer_text : ℤ → List ℕ
integer_text n = codes "i:" ++ (signed_decimal n ++ codes ";")

abbrev pub bytes_text : List ℕ → List ℕ
bytes_text w = codes "s:" ++ (quoted w ++ codes ";")

abbrev pub boolean_text : Bool → List ℕ
boolean_text true = codes "b:1;"
boolean_text false = codes "b:0;"

abbrev pub key_text : Key → List ℕ
key_text (Int n) = integer_text n
key_text (Text w) = bytes_text w

abbrev mutual
  pub value_text : Tree → List ℕ
  value_text null = codes "N;"
  value_text (boolean b) = boolean_text b
  value_text (integer n s) = integer_text n
  value_text (text t) = bytes_text (bytes_of t)
  value_text (array r l h) = codes "a:" ++ braced (length (entries_of r)) (pairs_text r)
  -- an object has no text, and is never written
  value_text (object n) = []

  -- the pairs of a key and a value, in order
  pub pairs_text : Row → List ℕ
  pairs_text no_entry = []
  pairs_text (entry k t r) = key_text k ++ (value_text t ++ pairs_text r)

-- what stands before the pairs of a class with so many fields
abbrev pub policy_head : List ℕ → ℕ → List ℕ
policy_head class count = codes "O:" ++ (quoted class ++ (58 ∷ decimal count ++ codes ":{"))

-- the text of a class and the pairs of its fields
abbrev pub policy_text : List ℕ → EntryList → List ℕ
policy_text class fields = policy_head class (length fields) ++ (pairs_text (row_of fields) ++ codes "}")
