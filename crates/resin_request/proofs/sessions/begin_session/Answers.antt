use Rattle.std.proofs.Common.{◌∙◌}
use Rattle.resin_interp.proofs.eval_nested_lemmas.Exits.{does_seen_exit, does_seen_unbegun}
use Rattle.resin_interp.proofs.meaning_lemmas.Composition.{does_give, does_next}
use Rattle.resin_request.proofs.sessions.begin_session.Goals as goal

pub returns-in_err-path : goal.returns-in_err-path
returns-in_err-path g c = does_seen_unbegun _ _ _ _ c.from_residual.ensures.1

pub returns-in_err-found : goal.returns-in_err-found
returns-in_err-found g c =
    does_seen_exit _ _ _ _ c.from_residual-in_err-found.ensures.1 (rw (c.as_slice.ensures.value ∙ c.in_ok-path.ensures) at c.in_err-found.ensures)

pub returns-in_err-set_found : goal.returns-in_err-set_found
returns-in_err-set_found g c =
    does_next _ _ (rw (c.as_slice.ensures.value ∙ c.in_ok-path.ensures) at c.in_ok-found.ensures)
    (does_seen_exit _ _ _ _ c.from_residual-in_err-set_found.ensures.1 (c.in_err-set_found.ensures _ _ _))

pub returns : goal.returns
returns g c =
    does_next _ _ (rw (c.as_slice.ensures.value ∙ c.in_ok-path.ensures) at c.in_ok-found.ensures) (does_next _ _ (c.in_ok-set_found.ensures _ _ _) (does_give _ _))
