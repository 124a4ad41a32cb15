use Rattle.resin_step_functions.proofs.meaning_lemmas.Composition.{does_give}
use Rattle.resin_step_functions.proofs.step_parts_lemmas.Steps.{does_lost_give}
use Rattle.std.proofs.Common.{sym}
use Rattle.resin_step_objects.proofs.invoke.argument_for.Goals as goal

pub returns-in_err-clone-in-Some : goal.returns-in_err-clone-in-Some
returns-in_err-clone-in-Some c =
    rw c.in-Some.is (λ f t k. does_lost_give _ _ c.from_residual.ensures.1)

pub returns-in_ok-clone-in-Some : goal.returns-in_ok-clone-in-Some
returns-in_ok-clone-in-Some c =
    rw (c.in-Some.is, sym c.in_ok-clone-in-Some.ensures.cases) (λ f t k. does_give _ _)

pub returns-in-None : goal.returns-in-None
returns-in-None c =
    rw c.in-None.is c.default_value.ensures
