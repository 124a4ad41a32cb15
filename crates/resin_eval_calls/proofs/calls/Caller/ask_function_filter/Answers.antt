use Rattle.resin_eval_channels.proofs.eval_nested_lemmas.Arms.{does_faulted, does_given, does_settled}
use Rattle.resin_eval_channels.proofs.eval_nested_lemmas.Exits.{does_is, does_seen_exit, does_seen_lost, does_seen_none}
use Rattle.resin_eval_calls.proofs.Others.{no_array_answer}
use Rattle.resin_eval_channels.proofs.meaning_lemmas.Composition.{does_give, does_next, does_stop}
use Rattle.resin_eval_calls.proofs.calls.Caller.ask_function_filter.Goals as goal

pub returns-in_err-list : goal.returns-in_err-list
returns-in_err-list g c =
    does_seen_exit _ _ _ _ c.from_residual.ensures.1 (does_stop _ _ (does_settled _ _ (rw c.as_slice.ensures at c.list.ensures) c.in_err-list.ensures.acts))

pub returns-in_err-told : goal.returns-in_err-told
returns-in_err-told g c =
    does_seen_lost _ _ _ _ c.from_residual-in_err-told.ensures.1 (does_next _ _ (does_settled _ _ (rw c.as_slice.ensures at c.list.ensures) c.in_ok-list.ensures.acts) (does_give _ _))

pub returns-in_err-push : goal.returns-in_err-push
returns-in_err-push g c =
    does_seen_lost _ _ _ _ c.from_residual-in_err-push.ensures.1 (does_next _ _ (does_settled _ _ (rw c.as_slice.ensures at c.list.ensures) c.in_ok-list.ensures.acts) (does_give _ _))

pub returns-in_err-push-2 : goal.returns-in_err-push-2
returns-in_err-push-2 g c =
    does_seen_lost _ _ _ _ c.from_residual-in_err-push-2.ensures.1 (does_next _ _ (does_settled _ _ (rw c.as_slice.ensures at c.list.ensures) c.in_ok-list.ensures.acts) (does_give _ _))

pub returns-in_err-answer : goal.returns-in_err-answer
returns-in_err-answer g c =
    does_next _ _ (does_next _ _ (does_settled _ _ (rw c.as_slice.ensures at c.list.ensures) c.in_ok-list.ensures.acts) (does_give _ _)) (does_seen_exit _ _ _ _ c.from_residual-in_err-answer.ensures.1 (rw (c.in_ok-push-2.ensures.ok, c.in_ok-push.ensures.ok, c.new-asked.ensures, c.in_ok-told.ensures) at c.in_err-answer.ensures))

pub returns-in_err-values_in-in-Arr : goal.returns-in_err-values_in-in-Arr
returns-in_err-values_in-in-Arr g c =
    does_next _ _ (does_next _ _ (does_settled _ _ (rw c.as_slice.ensures at c.list.ensures) c.in_ok-list.ensures.acts) (does_give _ _)) (does_next _ _ (rw (c.in_ok-push-2.ensures.ok, c.in_ok-push.ensures.ok, c.new-asked.ensures, c.in_ok-told.ensures) at c.in_ok-answer.ensures) (rw c.in-Arr.is (does_seen_none _ _ _ c.from_residual-in_err-values_in-in-Arr.ensures.1)))

pub returns-in-Arr : goal.returns-in-Arr
returns-in-Arr g c =
    does_next _ _ (does_next _ _ (does_settled _ _ (rw c.as_slice.ensures at c.list.ensures) c.in_ok-list.ensures.acts) (does_give _ _)) (does_next _ _ (rw (c.in_ok-push-2.ensures.ok, c.in_ok-push.ensures.ok, c.new-asked.ensures, c.in_ok-told.ensures) at c.in_ok-answer.ensures) (rw c.in-Arr.is (does_given _ _ c.in_ok-values_in-in-Arr.ensures)))

pub returns : goal.returns
returns g c =
    does_next _ _ (does_next _ _ (does_settled _ _ (rw c.as_slice.ensures at c.list.ensures) c.in_ok-list.ensures.acts) (does_give _ _)) (does_next _ _ (rw (c.in_ok-push-2.ensures.ok, c.in_ok-push.ensures.ok, c.new-asked.ensures, c.in_ok-told.ensures) at c.in_ok-answer.ensures) (does_is (no_array_answer _ c.in_default.not-Arr) (does_faulted _ _ c.fault.ensures)))
