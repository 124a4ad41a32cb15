-- What each builtin function takes.
use Rattle.std.specs.Prelude.{ℕ, ◌+◌, Bool, true, false, ◌==◌, ◌&&◌, ◌||◌, nat_le, List, [], ◌∷◌, ◌++◌, length, Option, Some, None, unwrap_or}
use Rattle.std.specs.List.{slice_get}
use Rattle.resin_builtin.specs.declared.builtin.Builtin.{Builtin}
use Rattle.resin_builtin.specs.declared.builtin.Builtin.TheVariants.{OneText, Digest, TwoTexts, Trim, OneInteger, Test, OneArray, Substr}
use Rattle.resin_builtin.specs.declared.builtin.Builtin.TheVariants.{Strpos, StrReplace, StrRepeat, Implode, StrPad, Sprintf, Intval, Intdiv}
use Rattle.resin_builtin.specs.declared.builtin.Builtin.TheVariants.{GetClass, ArrayMerge, ArraySlice, ArrayReverse, InArray, ArrayKeyExists}
use Rattle.resin_builtin.specs.declared.signatures.ArgKind.{ArgKind}
use Rattle.resin_builtin.specs.declared.signatures.ArgKind.TheVariants.{Text, Integer, Array, TextOrArray, Any}
use Rattle.resin_builtin.specs.declared.signatures.Sig.{Sig}

-- the arguments that must stand, those that may be left out, and those that may follow
pub record Parameters : Type 0 where
  pub needed : List ArgKind
  pub optional : List ArgKind
  pub more : Option ArgKind

abbrev pub takes : List ArgKind → List ArgKind → Option ArgKind → Parameters
takes needed optional more = record { needed = needed; optional = optional; more = more }

abbrev pub parameters : Builtin → Parameters
parameters (OneText row) = takes (Text ∷ []) [] None
parameters (Digest row) = takes (Text ∷ []) [] None
parameters (TwoTexts row) = takes (Text ∷ Text ∷ []) [] None
parameters (Trim side) = takes (Text ∷ []) (Text ∷ []) None
parameters (OneInteger row) = takes (Integer ∷ []) [] None
parameters (Test kind) = takes (Any ∷ []) [] None
parameters (OneArray row) = takes (Array ∷ []) [] None
parameters Substr = takes (Text ∷ Integer ∷ []) (Integer ∷ []) None
parameters Strpos = takes (Text ∷ Text ∷ []) (Integer ∷ []) None
-- what is searched, what it becomes, and where
parameters StrReplace = takes (TextOrArray ∷ TextOrArray ∷ Text ∷ []) [] None
parameters StrRepeat = takes (Text ∷ Integer ∷ []) [] None
parameters Implode = takes (Text ∷ Array ∷ []) [] None
parameters StrPad = takes (Text ∷ Integer ∷ []) (Text ∷ Integer ∷ []) None
-- how the others are read is said by the format
parameters Sprintf = takes (Text ∷ []) [] (Some Any)
parameters Intval = takes (Any ∷ []) [] None
parameters Intdiv = takes (Integer ∷ Integer ∷ []) [] None
parameters GetClass = takes (Any ∷ []) [] None
parameters ArrayMerge = takes (Array ∷ Array ∷ []) [] (Some Array)
parameters ArraySlice = takes (Array ∷ Integer ∷ []) (Integer ∷ Any ∷ []) None
parameters ArrayReverse = takes (Array ∷ []) (Any ∷ []) None
parameters InArray = takes (Any ∷ Array ∷ []) (Any ∷ []) None
parameters ArrayKeyExists = takes (Any ∷ Array ∷ []) [] None

-- how many arguments there are at least
abbrev pub least : Parameters → ℕ
least p = length p.needed

-- and at most; 255 stands for no limit
abbrev pub most_of : Option ArgKind → Parameters → ℕ
most_of None p = length p.needed + length p.optional
most_of (Some kind) p = 255

abbrev pub most : Parameters → ℕ
most p = most_of p.more p

-- the kind of the argument at a place, from 0; beyond the last it is that of those that may follow
abbrev pub kind_at : Parameters → ℕ → ArgKind
kind_at p i = unwrap_or (slice_get (p.needed ++ p.optional) i) (unwrap_or p.more Any)

-- whether the answer carries the merged labels of arguments
abbrev pub merges : Builtin → Bool
merges (Digest row) = true
merges Intval = true
merges Intdiv = true
merges b = false

-- the signature of a function
abbrev pub sig_of : Builtin → Sig
sig_of b = record { builtin = b; least = least (parameters b); most = most (parameters b); merges = merges b }

-- whether so many arguments may stand
abbrev pub is_count : Sig → ℕ → Bool
is_count s n = nat_le s.least n && (s.most == 255 || nat_le n s.most)

-- whether null at a place stands for what is taken where the argument is left out: for how many bytes or entries a part has
abbrev pub cuts_a_part : Builtin → Bool
cuts_a_part Substr = true
cuts_a_part ArraySlice = true
cuts_a_part b = false

abbrev pub null_is_default : Builtin → ℕ → Bool
null_is_default b i = cuts_a_part b && i == 2
