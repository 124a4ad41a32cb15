use Rattle.resin_meaning_forms.proofs.meaning_lemmas.Composition.{does_act, does_give}
use Rattle.resin_step_parts.proofs.Steps.{does_lost_act}
use Rattle.std.proofs.Common.{sym}
use Rattle.resin_step_parts.proofs.statements.assign_key.Goals as goal

pub returns-in_default : goal.returns-in_default
returns-in_default c =
    rw c.in_default.is (λ f t k. does_give _ _)

pub returns-in_err-key : goal.returns-in_err-key
returns-in_err-key c =
    rw c.in-Some.is (λ f t k. does_lost_act _ _ c.from_residual.ensures.1)

pub returns : goal.returns
returns c =
    rw (c.in-Some.is, sym c.in_ok-key.ensures) (λ f t k. does_act _ f t k (rw c.as_slice.ensures at c.assign.ensures.acts))
