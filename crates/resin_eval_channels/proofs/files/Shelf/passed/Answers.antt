use Rattle.resin_eval_queries.proofs.meaning_lemmas.Composition.{does_unbegun_exit}
use Rattle.resin_eval_channels.proofs.files.Shelf.passed.Goals as goal

pub returns-in_err-context : goal.returns-in_err-context
returns-in_err-context g c =
    does_unbegun_exit _ _ _ c.from_residual.ensures.1

pub returns-in_err-given : goal.returns-in_err-given
returns-in_err-given g c =
    does_unbegun_exit _ _ _ c.from_residual-in_err-given.ensures.1

pub returns : goal.returns
returns g c =
    rw (c.in_ok-context.ensures, c.in_ok-given.ensures.cases) at c.keep_through.ensures
