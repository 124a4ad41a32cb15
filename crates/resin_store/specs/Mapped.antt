-- A finite map with each of its values changed.
use Rattle.std.specs.Prelude.{map}
use Rattle.std.specs.FinMap.{FinMap, entries, from_sorted}
use Rattle.std.specs.declared.cmp.Ordering.{Ordering}

-- the same keys, each with what the function makes of its value
unfoldable pub mapped : {K X Y : Type 0} {R : K → K → Ordering} → (X → Y) → FinMap R X → FinMap R Y
mapped f m = from_sorted (map (λ e. (e.0, f e.1)) (entries m))
