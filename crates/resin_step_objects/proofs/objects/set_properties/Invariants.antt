use Rattle.resin_step_functions.specs.Under.meaning_forms.Calls.{set_properties}
use Rattle.resin_step_functions.proofs.step_parts_lemmas.Steps.{Leaves}
use Rattle.resin_tree.specs.declared.declaration.Property.{Property}
use Rattle.std.proofs.Common.{List, drop, ◌++◌, ◌≡◌}
use Rattle.resin_step_objects.proofs.objects.set_properties.Given as goal

abbrev pub invariant-loop-p : goal.invariant-loop-p
invariant-loop-p l =
    record { goes : (rest : List Property) → Leaves (set_properties l.o (l.properties ++ rest)) l.fn.m (set_properties l.o (drop l.p-index l.properties ++ rest)) l.m; kept : l.m.classes ≡ l.fn.m.classes }
