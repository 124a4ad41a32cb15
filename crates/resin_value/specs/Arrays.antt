-- Arrays as their entries in order, with the largest integer key ever used and the height.
use Rattle.std.specs.Prelude.{◌≡◌, ℕ, ℤ, ◌+◌, List, [], ◌∷◌, Option}
use Rattle.std.proofs.Common.{refl, ap}
use Rattle.std.specs.Coded.{Coded, code_by, coded×, coded_ℕ, coded_ℤ, coded_list, coded_option}
use Rattle.resin_value.specs.declared.key.Key.{Key}
use Rattle.resin_value.specs.Trees.{Tree, Row, null, boolean, integer, text, array, object, no_entry, entry, key_code, tree_code}

-- keys beside their values, in order
abbrev pub EntryList : Type 0
EntryList = List (Key × Tree)

abbrev pub entries_code : Coded EntryList
entries_code = coded_list (coded× key_code tree_code)

pub record Array : Type 0 where
  pub entries : EntryList
  pub largest : Option ℤ
  pub height : ℕ

abbrev pub array_code : Coded Array
array_code =
    code_by (EntryList × (Option ℤ × ℕ)) (coded× entries_code (coded× (coded_option coded_ℤ) coded_ℕ))
    (λ a. (a.entries, (a.largest, a.height))) (λ p. record { entries = p.0; largest = p.1.0; height = p.1.1 }) (λ _. refl)

-- entries as they stand in a value
abbrev pub row_of : EntryList → Row
row_of [] = no_entry
row_of (e ∷ es) = entry e.0 e.1 (row_of es)

-- the entries of an array in a value
abbrev pub entries_of : Row → EntryList
entries_of no_entry = []
entries_of (entry k t r) = (k, t) ∷ entries_of r

pub entries_of-row_of : (es : EntryList) → entries_of (row_of es) ≡ es
entries_of-row_of [] = refl
entries_of-row_of (e ∷ es) = ap (λ zs. e ∷ zs) (entries_of-row_of es)

-- how many arrays and entries stand in a value
abbrev mutual
  pub tree_size : Tree → ℕ
  tree_size null = 0
  tree_size (boolean b) = 0
  tree_size (integer n s) = 0
  tree_size (text t) = 0
  tree_size (array r l h) = row_size r + 1
  tree_size (object n) = 0

  pub row_size : Row → ℕ
  row_size no_entry = 0
  row_size (entry k t r) = (tree_size t + 1) + row_size r

abbrev pub entries_size : EntryList → ℕ
entries_size es = row_size (row_of es)

abbrev pub array_size : Array → ℕ
array_size a = entries_size a.entries + 1
