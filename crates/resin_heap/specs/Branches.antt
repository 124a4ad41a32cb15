-- Trees whose branches stand in one list. Place 0 is at a tree's own branch. The odd places, in order, are the places of one of its children, and
-- the even ones from 2 on those of the other, so a place is as many steps down as its number has binary digits.
use Rattle.std.specs.Prelude.{◌≡◌, ℕ, zero, suc, ◌-◌, ◌<◌, ◌/◌, ◌%◌, Bool, nat_eq, List, ◌++◌, slice_get, Option, Some, None, IfSome, if◌then◌else◌}
use Rattle.std.specs.Option.{option_and_then, option_map_or}
use Rattle.resin_heap.specs.declared.branches.Branch.{Branch}
use Rattle.resin_heap.specs.declared.classes.MethodAt.{MethodAt}

-- a branch that keeps nothing
abbrev pub bare : Branch
bare = record { method = None; odd = None; even = None }

-- the branch of a tree
abbrev pub branch_of : List Branch → Option ℕ → Branch
branch_of bs tree = option_map_or (λ b. b) (option_and_then (slice_get bs) tree) bare

abbrev pub is_odd : ℕ → Bool
is_odd place = nat_eq (place % 2) 1

-- the child in which a place other than 0 lies
abbrev pub child_for : Branch → ℕ → Option ℕ
child_for b place = if is_odd place then b.odd else b.even

-- the place there
abbrev pub place_below : ℕ → ℕ
place_below place = (place - 1) / 2

abbrev pub with_child : Branch → ℕ → ℕ → Branch
with_child b place child =
    if is_odd place then record { method = b.method; odd = Some child; even = b.even }
    else record { method = b.method; odd = b.odd; even = Some child }

abbrev pub with_method : Branch → MethodAt → Branch
with_method b method = record { method = Some method; odd = b.odd; even = b.even }

-- what a tree keeps at a place, as far as so many steps lead down
unfoldable pub found_within : ℕ → List Branch → Option ℕ → ℕ → Option MethodAt
found_within zero bs tree place = None
found_within (suc steps) bs tree zero = (branch_of bs tree).method
found_within (suc steps) bs tree (suc place) = found_within steps bs (child_for (branch_of bs tree) (suc place)) (place_below (suc place))

-- what a tree keeps at a place
unfoldable pub found_at : List Branch → Option ℕ → ℕ → Option MethodAt
found_at bs tree place = found_within (suc place) bs tree place

-- the children of a branch are among so many
pub record HasChildrenBelow (n : ℕ) (b : Branch) : Type 0 where
  pub odd : IfSome b.odd (λ child. child < n)
  pub even : IfSome b.even (λ child. child < n)

-- the children of each branch stand before it
abbrev pub IsClosed : List Branch → Type 0
IsClosed bs = (i : ℕ) (b : Branch) → slice_get bs i ≡ Some b → HasChildrenBelow i b

-- a list went on
abbrev pub Grown : {X : Type 0} → List X → List X → Type 0
Grown {X} old new = (more : List X) × (new ≡ old ++ more)
