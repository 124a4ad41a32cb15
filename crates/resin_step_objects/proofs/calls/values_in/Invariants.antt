use Rattle.resin_step_functions.specs.Under.value.Seen.{trees_of}
use Rattle.std.proofs.Common.{drop, length, map, ◌++◌, ◌-◌, ◌≡◌, ◌≤◌}
use Rattle.resin_step_objects.proofs.calls.values_in.Given as goal

abbrev pub decreases-loop-i : goal.decreases-loop-i
decreases-loop-i l =
    length l.a.entries - l.i

abbrev pub invariant-loop-i : goal.invariant-loop-i
invariant-loop-i l =
    record { within : l.i ≤ length l.a.entries; made : trees_of l.out ++ map (λ e. e.1) (drop l.i l.a.entries) ≡ map (λ e. e.1) l.a.entries }
