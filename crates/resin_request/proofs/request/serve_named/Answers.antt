use Rattle.resin_interp.proofs.meaning_lemmas.Composition.{does_exit, does_next}
use Rattle.resin_request.proofs.request.serve_named.Goals as goal

pub returns-in_err-found : goal.returns-in_err-found
returns-in_err-found g c = does_exit _ _ _ c.from_residual.ensures.1 c.in_err-found.ensures

pub returns-in_err-serve_and_end : goal.returns-in_err-serve_and_end
returns-in_err-serve_and_end g c =
    does_next _ _ c.in_ok-found.ensures (does_exit _ _ _ c.from_residual-in_err-serve_and_end.ensures.1 c.in_err-serve_and_end.ensures)

pub returns : goal.returns
returns g c = does_next _ _ c.in_ok-found.ensures (does_next _ _ c.in_ok-serve_and_end.ensures c.end_session.ensures)
