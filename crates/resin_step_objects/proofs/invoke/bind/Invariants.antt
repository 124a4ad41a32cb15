use Rattle.resin_step_functions.specs.Under.meaning_forms.Invoke.{bind}
use Rattle.resin_step_functions.proofs.step_parts_lemmas.Steps.{Leaves}
use Rattle.std.proofs.Common.{drop}
use Rattle.resin_step_objects.proofs.invoke.bind.Given as goal

abbrev pub invariant-loop-i : goal.invariant-loop-i
invariant-loop-i l =
    Leaves (bind l.parameters l.fn.args) l.fn.m (bind (drop l.i l.parameters) (drop l.i l.fn.args)) l.m
