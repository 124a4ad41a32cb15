-- Names of classes and methods, which ignore ASCII case (PHP manual, "Classes and Objects").
use Rattle.std.specs.Prelude.{◌≡◌, ℕ, Bool, IsTrue, List}
use Rattle.std.proofs.Common.{ap}
use Rattle.std.specs.Cmp.{IsEquivalence, on_equiv}
use Rattle.std.specs.Cmp.Lexicographic.{nat_list_eq_equiv, bytes_decides}
use Rattle.std.specs.Hash as fed
use Rattle.std.specs.Hash.{HashWrites}
use Rattle.std.specs.List.{flat_map}
use Rattle.std.specs.Str.{bytes_eq, str_to_ascii_lowercase}

-- two names are the same where their bytes are, with ASCII letters in lower case
abbrev pub same_name : List ℕ → List ℕ → Bool
same_name a b = bytes_eq (str_to_ascii_lowercase a) (str_to_ascii_lowercase b)

-- what a name feeds a hasher
abbrev pub fed_name : List ℕ → HashWrites
fed_name a = flat_map fed.u8 (str_to_ascii_lowercase a)

pub same_name_equiv : IsEquivalence same_name
same_name_equiv = on_equiv str_to_ascii_lowercase nat_list_eq_equiv

pub same_name_fed : (a b : List ℕ) → IsTrue (same_name a b) → fed_name a ≡ fed_name b
same_name_fed a b h = ap (flat_map fed.u8) ((bytes_decides (str_to_ascii_lowercase a) (str_to_ascii_lowercase b)).0 h)
