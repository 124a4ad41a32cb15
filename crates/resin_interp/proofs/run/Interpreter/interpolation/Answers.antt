use Rattle.resin_eval_calls.proofs.meaning_lemmas.Composition.{does_next, does_exit}
use Rattle.resin_interp.proofs.run.Interpreter.interpolation.Goals as goal

pub returns-in_err-vs : goal.returns-in_err-vs
returns-in_err-vs g c =
    does_exit _ _ _ c.from_residual.ensures.1 (c.in_err-vs.ensures)

pub returns-in_err-charge_all : goal.returns-in_err-charge_all
returns-in_err-charge_all g c =
    does_next _ _ (c.in_ok-vs.ensures) (does_exit _ _ _ c.from_residual-in_err-charge_all.ensures.1 ((rw (c.as_slice.ensures) at c.in_err-charge_all.ensures) _ _ _))

pub returns-in_err-text : goal.returns-in_err-text
returns-in_err-text g c =
    does_next _ _ (c.in_ok-vs.ensures) (does_next _ _ ((rw (c.as_slice.ensures) at c.in_ok-charge_all.ensures) _ _ _) (does_exit _ _ _ c.from_residual-in_err-text.ensures.1 ((rw (c.as_slice-2.ensures) at c.in_err-text.ensures) _ _ _)))

pub returns : goal.returns
returns g c =
    does_next _ _ (c.in_ok-vs.ensures) (does_next _ _ ((rw (c.as_slice.ensures) at c.in_ok-charge_all.ensures) _ _ _) (does_next _ _ ((rw (c.as_slice-2.ensures) at c.in_ok-text.ensures) _ _ _) (c.given.ensures _ _ _)))
