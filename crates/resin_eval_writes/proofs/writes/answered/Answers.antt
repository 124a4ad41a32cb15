use Rattle.resin_eval_nested.proofs.Arms.{does_thrown}
use Rattle.resin_eval_nested.proofs.meaning_lemmas.Composition.{does_act, does_exit, does_give, does_next}
use Rattle.std.proofs.Common.{refl}
use Rattle.resin_eval_writes.proofs.writes.answered.Goals as goal

pub returns-in-Ok-clause-does : goal.returns-in-Ok-clause-does
returns-in-Ok-clause-does c =
    λ f t k. rw c.in-Ok.is (does_give _ _)

pub returns-in-Ok-clause-kept : goal.returns-in-Ok-clause-kept
returns-in-Ok-clause-kept c =
    refl

pub returns-in_err-deny_filter-in-Err-clause-does : goal.returns-in_err-deny_filter-in-Err-clause-does
returns-in_err-deny_filter-in-Err-clause-does c =
    λ f t k. rw c.in-Err.is (does_exit _ _ _ c.from_residual.ensures.1 (does_act {A = Unit {0}} _ _ _ _ (rw (c.len.ensures.value) at c.in_err-deny_filter-in-Err.ensures.acts)))

pub returns-clause-does : goal.returns-clause-does
returns-clause-does c =
    λ f t k. rw c.in-Err.is (does_next _ _ (does_act {A = Unit {0}} _ _ _ _ (rw (c.len.ensures.value) at c.in_ok-deny_filter-in-Err.ensures.acts)) (does_thrown _ _))
