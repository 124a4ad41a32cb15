use Rattle.resin_eval_channels.proofs.eval_nested_lemmas.Arms.{does_thrown}
use Rattle.resin_eval_channels.proofs.eval_nested_lemmas.Exits.{does_seen_exit}
use Rattle.resin_eval_channels.proofs.meaning_lemmas.Composition.{does_act, does_give, does_next}
use Rattle.resin_eval_calls.proofs.calls.filter_answer.Goals as goal

pub returns-in-Ok : goal.returns-in-Ok
returns-in-Ok c =
    λ f t k. rw c.in-Ok.is (does_give _ _)

pub returns-in_err-deny_filter_outside-in-Err : goal.returns-in_err-deny_filter_outside-in-Err
returns-in_err-deny_filter_outside-in-Err c =
    λ f t k. rw c.in-Err.is (does_seen_exit _ _ _ _ c.from_residual.ensures.1 (does_act _ _ _ _ c.in_err-deny_filter_outside-in-Err.ensures.acts))

pub returns-in_ok-deny_filter_outside-in-Err : goal.returns-in_ok-deny_filter_outside-in-Err
returns-in_ok-deny_filter_outside-in-Err c =
    λ f t k. rw c.in-Err.is (does_next _ _ (does_act _ _ _ _ c.in_ok-deny_filter_outside-in-Err.ensures.acts) (does_thrown _ _))
