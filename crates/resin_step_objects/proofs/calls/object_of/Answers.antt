use Rattle.resin_step_functions.proofs.meaning_lemmas.Composition.{does_give}
use Rattle.resin_step_objects.proofs.Found.{no_object}
use Rattle.resin_step_functions.proofs.step_parts_lemmas.Steps.{fault_there}
use Rattle.resin_step_objects.proofs.calls.object_of.Goals as goal

pub returns-in-Obj : goal.returns-in-Obj
returns-in-Obj c =
    rw c.in-Obj.is (λ f t k. does_give _ _)

pub returns-in_default : goal.returns-in_default
returns-in_default c =
    fault_there _ c.args.m.now _ (no_object c.args.v.now c.in_default.not-Obj) c.fault.ensures
