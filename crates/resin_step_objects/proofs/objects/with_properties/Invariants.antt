use Rattle.resin_step_functions.specs.Under.meaning_forms.Calls.{set_properties}
use Rattle.resin_step_functions.specs.Under.heap.Classes.{own_properties}
use Rattle.resin_step_functions.proofs.step_parts_lemmas.Steps.{Leaves}
use Rattle.std.proofs.Common.{drop, ◌≡◌}
use Rattle.std.specs.List.{flat_map}
use Rattle.resin_step_objects.proofs.objects.with_properties.Given as goal

abbrev pub invariant-loop-c : goal.invariant-loop-c
invariant-loop-c l =
    record { goes : Leaves (set_properties l.o (flat_map (own_properties l.initial.m.classes) l.line)) l.initial.m (set_properties l.o (flat_map (own_properties l.initial.m.classes) (drop l.c-index l.line))) l.m; kept : l.m.classes ≡ l.initial.m.classes }
