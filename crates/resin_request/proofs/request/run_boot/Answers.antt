use Rattle.resin_interp.proofs.meaning_lemmas.Composition.{does_next, does_exit, does_give}
use Rattle.resin_request.proofs.request.run_boot.Goals as goal

pub returns-in_err-found : goal.returns-in_err-found
returns-in_err-found g c = does_exit _ _ _ c.from_residual.ensures.1 c.in_err-found.ensures

pub returns-in-None : goal.returns-in-None
returns-in-None g c = does_next _ _ (rw c.in-None.is at c.in_ok-found.ensures) (does_give _ _)

pub returns-in-Some : goal.returns-in-Some
returns-in-Some g c = does_next _ _ (rw c.in-Some.is at c.in_ok-found.ensures) c.run_entry.ensures
