use Rattle.resin_step_objects.proofs.meaning_lemmas.Composition.{does_next, does_exit, does_act}
use Rattle.resin_eval_nested.proofs.Arms.{does_given, does_none}
use Rattle.resin_eval_nested.proofs.Leaf_means.{open_literal, shut_expr}
use Rattle.resin_eval_nested.proofs.leaves.literal.Goals as goal

pub returns-then-room-eq0-clause-does : goal.returns-then-room-eq0-clause-does
returns-then-room-eq0-clause-does c =
    λ f t k. shut_expr c.args.room _ _ c.if-room-eq0.true c.fault.ensures

pub returns-in_err-charge-clause-does : goal.returns-in_err-charge-clause-does
returns-in_err-charge-clause-does c =
    λ f t k. open_literal c.args.room _ c.if-room-eq0.false (does_exit _ _ _ c.from_residual.ensures.1 (does_act _ _ _ _ c.in_err-charge.ensures.acts))

pub returns-in_err-literal_value-clause-does : goal.returns-in_err-literal_value-clause-does
returns-in_err-literal_value-clause-does c =
    λ f t k. open_literal c.args.room _ c.if-room-eq0.false (does_next _ _ (does_act _ _ _ _ c.in_ok-charge.ensures.acts) (does_none _ _ c.from_residual-in_err-literal_value.ensures.1))

pub returns-clause-does : goal.returns-clause-does
returns-clause-does c =
    λ f t k. open_literal c.args.room _ c.if-room-eq0.false (does_next _ _ (does_act _ _ _ _ c.in_ok-charge.ensures.acts) (does_given _ _ c.in_ok-literal_value.ensures))
