use Rattle.resin_eval_calls.proofs.meaning_lemmas.Composition.{does_exit, does_give, does_next}
use Rattle.resin_interp.proofs.pages.read_through.Goals as goal

pub returns-in_err-read : goal.returns-in_err-read
returns-in_err-read g c =
    does_exit _ _ _ c.from_residual.ensures.1 c.in_err-read.ensures

pub returns-in_err-note_read : goal.returns-in_err-note_read
returns-in_err-note_read g c =
    does_next _ _ c.in_ok-read.ensures (does_exit _ _ _ c.from_residual-in_err-note_read.ensures.1 (c.in_err-note_read.ensures _ _ _))

pub returns : goal.returns
returns g c =
    does_next _ _ c.in_ok-read.ensures (does_next _ _ (c.in_ok-note_read.ensures _ _ _) (does_give _ _))
