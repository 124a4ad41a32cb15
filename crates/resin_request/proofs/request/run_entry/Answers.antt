use Rattle.resin_interp.proofs.meaning_lemmas.Composition.{does_exit, does_next}
use Rattle.resin_request.proofs.request.run_entry.Goals as goal

pub returns-in_err-text : goal.returns-in_err-text
returns-in_err-text g c = does_exit _ _ _ c.from_residual.ensures.1 (c.in_err-text.ensures _ _ _)

pub returns : goal.returns
returns g c = does_next _ _ (c.in_ok-text.ensures _ _ _) c.run_source.ensures
