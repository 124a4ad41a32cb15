use Rattle.resin_step_parts.specs.Under.meaning_forms.Merges.{is_of_class}
use Rattle.std.proofs.Common.{drop, length, ◌≡◌, ◌≤◌}
use Rattle.resin_step_functions.proofs.Guarded.{chosen}
use Rattle.resin_step_functions.proofs.guards.marks_under.Given as goal

abbrev pub decreases-loop-i : goal.decreases-loop-i
decreases-loop-i l =
    l.i

abbrev pub invariant-loop-i : goal.invariant-loop-i
invariant-loop-i l =
    record { within : l.i ≤ length l.policies; made : l.set ≡ chosen (is_of_class l.class l.m) (drop l.i l.policies) }
