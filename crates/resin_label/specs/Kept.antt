-- How a set is kept: as its members, rising.
use Rattle.std.specs.Prelude.{ℕ, cond, nat_lt, List, [], ◌∷◌, Option, None, Some}
use Rattle.std.specs.FinMap as fin
use Rattle.std.specs.Rc.{rc_slice_items}
use Rattle.std.specs.declared.rc.RcSlice.{RcSlice}
use Rattle.resin_label.specs.Sets.{NumberSet}

-- the numbers that are kept, none for the empty set
abbrev pub numbers_of : {Z : Type 0} → Option (RcSlice ℕ Z) → List ℕ
numbers_of None = []
numbers_of (Some s) = rc_slice_items s

-- each number with nothing
abbrev pub keyed : List ℕ → List (ℕ × Unit {0})
keyed [] = []
keyed (n ∷ ns) = (n, tt) ∷ keyed ns

-- the set that has a rising list as its members
abbrev pub of_rising : List ℕ → NumberSet
of_rising ns = fin.from_sorted (keyed ns)

abbrev pub merge_into : ℕ → (List ℕ → List ℕ) → List ℕ → List ℕ
merge_into x rest [] = x ∷ rest []
merge_into x rest (y ∷ ys) = cond (nat_lt x y) (x ∷ rest (y ∷ ys)) (cond (nat_lt y x) (y ∷ merge_into x rest ys) (x ∷ rest ys))

-- two rising lists as one
abbrev pub merge : List ℕ → List ℕ → List ℕ
merge [] ys = ys
merge (x ∷ xs) ys = merge_into x (merge xs) ys
