-- Which array a session text keeps.
use Rattle.std.specs.Prelude.{◌≡◌, ℤ, ◌<◌, ◌^◌, IsTrue, None}
use lib.Signed.{mag}
use Rattle.std.specs.List.{fold, AllByRecursion}
use Rattle.resin_value.specs.Under.lstr.Texts.{Text}
use Rattle.resin_value.specs.declared.key.Key.{Key}
use Rattle.resin_value.specs.declared.key.Key.TheVariants.{Int, Text as TextKey}
use Rattle.resin_value.specs.Keys.{is_lawful}
use Rattle.resin_value.specs.Trees.{Tree, null, boolean, integer, text, array, object}
use Rattle.resin_value.specs.Arrays.{EntryList, Array}
use Rattle.resin_value.specs.Changes.{largest_with, IsApart}
use Rattle.resin_session.specs.Texts.{session_text}

-- an integer of 64 bits
abbrev pub IsInteger : ℤ → Type 0
IsInteger n = mag n < 2 ^ 63

abbrev pub IsInRange : Key → Type 0
IsInRange (Int n) = IsInteger n
IsInRange (TextKey w) = Unit {0}

-- a key of an array: an integer of 64 bits, or a text that is no canonical decimal of one
abbrev pub IsKey : Key → Type 0
IsKey k = IsTrue (is_lawful k) × IsInRange k

-- a value that is kept: an integer or a text
abbrev pub IsKept : Tree → Type 0
IsKept null = ⊥
IsKept (boolean b) = ⊥
IsKept (integer n s) = IsInteger n
IsKept (text t) = Unit {0}
IsKept (array r l h) = ⊥
IsKept (object n) = ⊥

-- the array of these entries and of no others before: its next key is one more than its largest integer key, and no array stands in it
abbrev pub array_of : EntryList → Array
array_of es = record { entries = es; largest = fold (λ l e. largest_with e.0 l) None es; height = 1 }

-- the text keeps this array
pub record IsSessionOf (t : Text) (a : Array) : Type 0 where
  pub text_is : t ≡ session_text a.entries
  pub keys : AllByRecursion (λ e. IsKey e.0) a.entries
  pub values : AllByRecursion (λ e. IsKept e.1) a.entries
  pub apart : IsApart a.entries
  pub built : a ≡ array_of a.entries
