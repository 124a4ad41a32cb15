use Rattle.resin_step_functions.proofs.meaning_lemmas.Composition.{does_loosely}
use Rattle.resin_step_objects.proofs.invoke.default_value.Goals as goal

pub returns-in-Some : goal.returns-in-Some
returns-in-Some c =
    rw c.in-Some.is c.constant_value.ensures.does

pub returns-in-None : goal.returns-in-None
returns-in-None c =
    rw c.in-None.is (λ f t k. does_loosely _ f t k c.throw.ensures.acts)
