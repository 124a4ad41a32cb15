use Rattle.resin_eval_calls.proofs.meaning_lemmas.Composition.{does_next, does_exit, does_loosely, does_give}
use Rattle.resin_interp.proofs.run.turned_key.Goals as goal

pub returns-in_err-key-in-Some-clause-turned : goal.returns-in_err-key-in-Some-clause-turned
returns-in_err-key-in-Some-clause-turned c =
    λ f t k. rw c.in-Some.is (does_exit _ _ _ c.from_residual.ensures.1 (does_loosely _ _ _ _ c.in_err-key-in-Some.ensures.acts))

pub returns-in_ok-key-in-Some-clause-turned : goal.returns-in_ok-key-in-Some-clause-turned
returns-in_ok-key-in-Some-clause-turned c =
    λ f t k. rw c.in-Some.is (does_next _ _ (does_loosely _ _ _ _ c.in_ok-key-in-Some.ensures.acts) (does_give _ _))

pub returns-in-None-clause-turned : goal.returns-in-None-clause-turned
returns-in-None-clause-turned c =
    λ f t k. rw c.in-None.is (does_give _ _)
