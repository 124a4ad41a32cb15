use Rattle.resin_meaning_forms.proofs.meaning_lemmas.Composition.{does_exit, does_give, does_loosely, does_next, does_unbegun_exit}
use Rattle.resin_step_parts.proofs.statements.stored_value.Goals as goal

pub returns-in_err-answer : goal.returns-in_err-answer
returns-in_err-answer c =
    λ f t k. does_unbegun_exit _ _ _ c.from_residual.ensures.1

pub returns-in_err-store : goal.returns-in_err-store
returns-in_err-store c =
    λ f t k. does_exit _ _ _ c.from_residual-in_err-store.ensures.1 (does_loosely _ f t k c.in_err-store.ensures.acts)

pub returns : goal.returns
returns c =
    rw c.in_ok-answer.ensures.cases (λ f t k. does_next _ _ (does_loosely _ f t k c.in_ok-store.ensures.acts) (does_give _ _))
