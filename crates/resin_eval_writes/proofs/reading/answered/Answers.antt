use Rattle.resin_eval_nested.proofs.Arms.{does_thrown}
use Rattle.resin_eval_nested.proofs.meaning_lemmas.Composition.{does_act, does_exit, does_give, does_next}
use Rattle.resin_eval_writes.proofs.reading.answered.Goals as goal

pub returns-in-Ok : goal.returns-in-Ok
returns-in-Ok c =
    λ f t k. rw c.in-Ok.is (does_give _ _)

pub returns-in_err-deny_filter_outside-in-Err : goal.returns-in_err-deny_filter_outside-in-Err
returns-in_err-deny_filter_outside-in-Err c =
    λ f t k. rw c.in-Err.is (does_exit _ _ _ c.from_residual.ensures.1 (does_act {A = Unit {0}} _ _ _ _ (rw (c.len.ensures.value) at c.in_err-deny_filter_outside-in-Err.ensures.acts)))

pub returns : goal.returns
returns c =
    λ f t k. rw c.in-Err.is (does_next _ _ (does_act {A = Unit {0}} _ _ _ _ (rw (c.len.ensures.value) at c.in_ok-deny_filter_outside-in-Err.ensures.acts)) (does_thrown _ _))
