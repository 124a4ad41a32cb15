use Rattle.resin_eval_calls.proofs.meaning_lemmas.Composition.{does_next, does_exit, does_act}
use Rattle.resin_eval_calls.specs.Under.meaning.Runs.{done}
use Rattle.resin_interp.proofs.Arms.{spent_after}
use Rattle.resin_eval_calls.proofs.eval_nested_lemmas.Leaf_means.{ticked_expr}
use Rattle.resin_interp.proofs.run.Interpreter.expr_by.Goals as goal

pub returns-in_err-charge-clause-does : goal.returns-in_err-charge-clause-does
returns-in_err-charge-clause-does g c =
    ticked_expr c.args.self.now.by.now.room _ (does_exit _ _ _ c.from_residual.ensures.1 (does_act _ _ _ _ c.in_err-charge.ensures.acts))

pub returns-clause-does : goal.returns-clause-does
returns-clause-does g c =
    ticked_expr c.args.self.now.by.now.room _ (does_next _ _ (does_act _ _ _ _ c.in_ok-charge.ensures.acts) (c.expression.ensures))

pub returns-clause-spent : goal.returns-clause-spent
returns-clause-spent g c =
    spent_after _ _ _ _ c.in_ok-charge.ensures.charged (done c.expression.ensures).goes.ticks
