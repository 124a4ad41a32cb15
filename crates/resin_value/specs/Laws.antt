-- Laws of arrays and of comparisons, in the words of the PHP manual ("Arrays", "Comparison Operators"), over the definitions that calls cite.
use Rattle.std.specs.Prelude.{◌≡◌, ◌≢◌, ℕ, ℤ, [], ◌∷◌, ◌++◌, None, Some}
use Rattle.resin_label.specs.Sets.{empty as no_labels}
use Rattle.resin_lstr.specs.Texts.{bytes_of, carrying}
use Rattle.resin_value.specs.declared.key.Key.{Key}
use Rattle.resin_value.specs.declared.key.Key.TheVariants.{Int}
use Rattle.resin_value.specs.Trees.{Tree, Row, null, boolean, integer, text, array, object, no_entry, entry}
use Rattle.resin_value.specs.Arrays.{EntryList, Array}
use Rattle.resin_value.specs.Changes.{lookup, put_at, remove_at, next_of, appended, IsApart, IsArray}
use Rattle.resin_value.specs.Compare.{order_trees, equal_trees, identical_trees}

-- what was put at a key is found there
abbrev pub FindsWhatWasPut : Type 0
FindsWhatWasPut = (k : Key) (t : Tree) (es : EntryList) → lookup k (put_at k t es) ≡ Some t

-- a put leaves the values at other keys
abbrev pub PutsAtOneKey : Type 0
PutsAtOneKey = (j k : Key) (t : Tree) (es : EntryList) → j ≢ k → lookup j (put_at k t es) ≡ lookup j es

-- a key that was taken out isn't found
abbrev pub ForgetsWhatWasRemoved : Type 0
ForgetsWhatWasRemoved = (k : Key) (es : EntryList) → IsApart es → lookup k (remove_at k es) ≡ None

-- a removal leaves the values at other keys
abbrev pub RemovesOneKey : Type 0
RemovesOneKey = (j k : Key) (es : EntryList) → j ≢ k → lookup j (remove_at k es) ≡ lookup j es

-- what is appended stands last, at the next key
abbrev pub AppendsLast : Type 0
AppendsLast =
    (t : Tree) (a : Array) (n : ℤ) → IsArray a → next_of a.largest ≡ Some n → (b : Array) → appended t a ≡ Some b
    → b.entries ≡ a.entries ++ (Int n, t) ∷ []

-- a value without its labels
abbrev mutual
  pub bare : Tree → Tree
  bare null = null
  bare (boolean b) = boolean b
  bare (integer n s) = integer n no_labels
  bare (text t) = text (carrying no_labels (bytes_of t))
  bare (array r l h) = array (bare_row r) l h
  bare (object n) = object n

  pub bare_row : Row → Row
  bare_row no_entry = no_entry
  bare_row (entry k t r) = entry k (bare t) (bare_row r)

-- labels play no part in a comparison
pub record IgnoresLabels : Type 0 where
  pub in_order : (t u : Tree) → order_trees (bare t) (bare u) ≡ order_trees t u
  pub equal : (t u : Tree) (n : ℕ) → equal_trees (bare t) (bare u) n ≡ equal_trees t u n
  pub identical : (t u : Tree) (n : ℕ) → identical_trees (bare t) (bare u) n ≡ identical_trees t u n
