use Rattle.resin_step_functions.proofs.meaning_lemmas.Composition.{does_give}
use Rattle.resin_step_objects.proofs.objects.property_value.Goals as goal

pub returns-in-Some-clause-does : goal.returns-in-Some-clause-does
returns-in-Some-clause-does c =
    rw c.in-Some.is c.constant_value.ensures.does

pub returns-in-None-clause-does : goal.returns-in-None-clause-does
returns-in-None-clause-does c =
    rw c.in-None.is (λ f t k. does_give _ _)
