-- Keys of arrays (PHP manual, "Arrays").
use Rattle.std.specs.Prelude.{ℕ, ℤ, Bool, true, false, nat_eq, List, Option, None, Some, is_none}
use Rattle.std.specs.Ordering.{int_eq}
use Rattle.std.specs.Cmp.Lexicographic.{pointwise}
use Rattle.resin_bytes.specs.Canonical.{canonical_integer}
use Rattle.resin_value.specs.declared.key.Key.{Key}
use Rattle.resin_value.specs.declared.key.Key.TheVariants.{Int, Text}

-- two keys are of one kind, with the same number or the same bytes
abbrev pub key_eq : Key → Key → Bool
key_eq (Int m) (Int n) = int_eq m n
key_eq (Text a) (Text b) = pointwise nat_eq a b
key_eq (Int m) (Text b) = false
key_eq (Text a) (Int n) = false

-- a key that may stand in an array: no text that is a canonical decimal in range, since such a text counts as its integer
abbrev pub is_lawful : Key → Bool
is_lawful (Int n) = true
is_lawful (Text b) = is_none (canonical_integer b)

-- the key that a text counts as
abbrev pub key_or_text : Option ℤ → List ℕ → Key
key_or_text (Some n) b = Int n
key_or_text None b = Text b

abbrev pub text_key : List ℕ → Key
text_key b = key_or_text (canonical_integer b) b
