use Rattle.resin_eval_calls.proofs.meaning_lemmas.Composition.{does_next, does_exit, does_give}
use Rattle.resin_interp.proofs.run.Interpreter.array.Goals as goal

pub returns-in_err-a : goal.returns-in_err-a
returns-in_err-a g c =
    does_exit _ _ _ c.from_residual.ensures.1 (c.in_err-a.ensures)

pub returns : goal.returns
returns g c =
    does_next _ _ (c.in_ok-a.ensures) (does_give _ _)
