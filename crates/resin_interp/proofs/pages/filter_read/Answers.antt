use Rattle.resin_eval_calls.proofs.meaning_lemmas.Composition.{does_unbegun_exit}
use Rattle.resin_interp.proofs.pages.filter_read.Goals as goal

pub returns-in_err-text : goal.returns-in_err-text
returns-in_err-text g c =
    does_unbegun_exit _ _ _ c.from_residual.ensures.1

pub returns-in_err-context : goal.returns-in_err-context
returns-in_err-context g c =
    does_unbegun_exit _ _ _ c.from_residual-in_err-context.ensures.1

pub returns : goal.returns
returns g c =
    rw (c.in_ok-context.ensures, c.in_ok-text.ensures.cases) at c.read_through.ensures
