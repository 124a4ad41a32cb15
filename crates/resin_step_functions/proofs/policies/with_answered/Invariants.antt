use Rattle.resin_step_parts.specs.Under.meaning_forms.Merges.{is_under, objects_among}
use Rattle.resin_step_parts.specs.Under.heap.declared.prelude.PreludeClass.TheVariants.{Policy}
use Rattle.resin_step_parts.specs.Under.label.Sets.{insert_all}
use Rattle.std.proofs.Common.{drop, length, map, true, ◌≡◌, ◌≤◌}
use Rattle.std.specs.List.{list_all}
use Rattle.resin_step_functions.proofs.policies.with_answered.Given as goal

abbrev pub decreases-loop-i : goal.decreases-loop-i
decreases-loop-i l =
    l.i

abbrev pub invariant-loop-i : goal.invariant-loop-i
invariant-loop-i l =
    record { within : l.i ≤ length l.a.entries; fit : list_all (is_under Policy l.m) (map (λ e. e.1) (drop l.i l.a.entries)) ≡ true; made : l.out ≡ insert_all l.fn.so_far (objects_among (map (λ e. e.1) (drop l.i l.a.entries))) }
