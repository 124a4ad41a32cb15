use Rattle.resin_eval_writes.proofs.meaning_lemmas.Composition.{does_act, does_give}
use Rattle.resin_eval_statements.proofs.forms.assign_caught.Goals as goal

pub returns-in-Some : goal.returns-in-Some
returns-in-Some c =
    λ f t k. rw c.in-Some.is (does_act _ f t k (rw (c.as_slice.ensures) at c.assign.ensures.acts))

pub returns-in-None : goal.returns-in-None
returns-in-None c =
    λ f t k. rw c.in-None.is (does_give _ _)
