-- How the policies of a text's bytes are held: maximal runs, and tables of their sets and texts.
use Rattle.std.specs.Prelude.{◌≡◌, ◌≢◌, ℕ, ◌<◌, ◌^◌, List, [], ◌∷◌, ◌++◌, map, slice_get, Some}
use Rattle.std.specs.List.{fold, sum_by, IsDistinct}
use Rattle.std.specs.Str.{bytes_eq}
use Rattle.std.specs.BTreeSet.{insert_key}
use Rattle.std.specs.Ordering.{nat_cmp}
use Rattle.std.specs.Cmp.Lexicographic.{slice_cmp}
use Rattle.resin_frozen.specs.Policies.{IsPolicyText}
use Rattle.resin_shadow.specs.declared.table.FrozenRun.{FrozenRun}
use Rattle.resin_shadow.specs.declared.table.Kind.{Kind}
use Rattle.resin_shadow.specs.declared.table.Table.{Table}
use Rattle.resin_shadow.specs.Marks.{TextSet, IsTextSet, Marks, MarkRun, Each, runs_of, spelled}

-- the set of the texts of a list
abbrev pub set_of : List (List ℕ) → TextSet
set_of ts = fold (insert_key (slice_cmp nat_cmp)) [] ts

abbrev pub run_of : FrozenRun → MarkRun
run_of r = (r.len, r.set)

-- the sets of the bytes of runs
abbrev pub marks_of : List FrozenRun → Marks
marks_of rs = spelled (map run_of rs)

-- the runs are the maximal ones
abbrev pub AreRunsOf : Marks → List FrozenRun → Type 0
AreRunsOf v rs = map run_of rs ≡ runs_of v

-- no run is empty, and none has the set of the run before
abbrev pub AreMaximal : List MarkRun → Type 0
AreMaximal [] = Unit {0}
AreMaximal (r ∷ []) = 0 < r.0
AreMaximal (r ∷ q ∷ rs) = (0 < r.0) × (r.1 ≢ q.1) × AreMaximal (q ∷ rs)

-- each item of one list is related to that of the other
abbrev pub Related : {A B : Type 0} → (A → B → Type 0) → List A → List B → Type 0
Related R [] [] = Unit {0}
Related R (x ∷ xs) (y ∷ ys) = R x y × Related R xs ys
Related R xs ys = ⊥

-- the text has this number
abbrev pub HasNumber : List (List ℕ) → ℕ → List ℕ → Type 0
HasNumber texts n t = slice_get texts n ≡ Some t

-- the texts with these numbers
abbrev pub AreTextsAt : List (List ℕ) → List ℕ → TextSet → Type 0
AreTextsAt texts ns s = Related (HasNumber texts) ns s

-- the set of this number; a set is kept as the numbers of its texts
abbrev pub HasKind : List (List ℕ) → List (List ℕ) → ℕ → TextSet → Type 0
HasKind sets texts k s = (numbers : List ℕ) × (slice_get sets k ≡ Some numbers) × AreTextsAt texts numbers s

-- what a set is known by in a table
abbrev pub IsKind : Table → ℕ → TextSet → Type 0
IsKind t k s = HasKind t.sets.keys t.texts.keys k s × IsTextSet s

abbrev pub IsKindOf : Table → Kind → Type 0
IsKindOf t k = IsKind t k.number k.set

-- what a table keeps
pub record IsTable (t : Table) : Type 0 where
  pub maximal : AreMaximal (map run_of t.runs.items)
  pub kinds_are : Each (λ r. IsKind t r.kind r.set) t.runs.items
  pub texts_are : Each IsPolicyText t.texts.keys
  pub texts_apart : IsDistinct bytes_eq t.texts.keys
  pub sets_apart : IsDistinct bytes_eq t.sets.keys
  pub total : sum_by (λ r. r.0) (map run_of t.runs.items) ≡ t.len
  pub count : t.len < 2 ^ 64

-- one list begins with the other
pub record Grows {X : Type 0} (old new : List X) : Type 0 where
  pub more : List X
  pub is : new ≡ old ++ more

-- a table has the same runs, and what it numbered is numbered as it was
pub record Stays (old new : Table) : Type 0 where
  pub runs : new.runs.items ≡ old.runs.items
  pub len : new.len ≡ old.len
  pub sets : Grows old.sets.keys new.sets.keys
  pub texts : Grows old.texts.keys new.texts.keys
