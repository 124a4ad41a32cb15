use Rattle.resin_eval_calls.proofs.meaning_lemmas.Composition.{does_next, does_exit, does_act}
use Rattle.resin_eval_calls.proofs.eval_nested_lemmas.Exits.{does_is}
use Rattle.resin_interp.proofs.Rooms.{does_hard, ticked_soft}
use Rattle.resin_interp.proofs.Shapes.{soft_access_means}
use Rattle.resin_interp.proofs.run.Interpreter.soft_by.Goals as goal

pub returns-in_err-charge : goal.returns-in_err-charge
returns-in_err-charge g c =
    ticked_soft c.args.self.now.by.now.room _ (does_exit _ _ _ c.from_residual.ensures.1 (does_act _ _ _ _ c.in_err-charge.ensures.acts))

pub returns-in-Access : goal.returns-in-Access
returns-in-Access g c =
    ticked_soft c.args.self.now.by.now.room _ (does_next _ _ (does_act _ _ _ _ c.in_ok-charge.ensures.acts) (does_is (soft_access_means _ c.args.e.now _ c.in-Access.is) (c.soft_access.ensures)))

pub returns-in_default : goal.returns-in_default
returns-in_default g c =
    ticked_soft c.args.self.now.by.now.room _ (does_next _ _ (does_act _ _ _ _ c.in_ok-charge.ensures.acts) (does_hard _ _ c.in_default.not-Access c.expression.ensures))
