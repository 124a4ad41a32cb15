use Rattle.resin_interp.proofs.meaning_lemmas.Composition.{does_exit, does_next}
use Rattle.resin_request.proofs.request.run_script.Goals as goal

pub returns-in_err-src : goal.returns-in_err-src
returns-in_err-src g c = does_exit _ _ _ c.from_residual.ensures.1 c.in_err-src.ensures

pub returns : goal.returns
returns g c = does_next _ _ c.in_ok-src.ensures c.run_source.ensures
