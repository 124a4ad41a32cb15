use Rattle.resin_eval_calls.proofs.meaning_lemmas.Composition.{does_unbegun_exit}
use Rattle.resin_interp.proofs.pages.write_page.Goals as goal

pub returns-in_err-text : goal.returns-in_err-text
returns-in_err-text g c =
    does_unbegun_exit _ _ _ c.from_residual.ensures.1

pub returns-in_err-context_of : goal.returns-in_err-context_of
returns-in_err-context_of g c =
    does_unbegun_exit _ _ _ c.from_residual-in_err-context_of.ensures.1

pub leave-requires-clause-told : goal.leave-requires-clause-told
leave-requires-clause-told g c =
    tt

pub returns : goal.returns
returns g c =
    rw (c.in_ok-context_of.ensures, c.in_ok-text.ensures.cases) at c.leave.ensures
