use Rattle.resin_interp.proofs.meaning_lemmas.Composition.{does_exit, does_next}
use Rattle.resin_request.proofs.request.serve_and_end.Goals as goal

pub returns-in_err-serve_file : goal.returns-in_err-serve_file
returns-in_err-serve_file g c = does_exit _ _ _ c.from_residual.ensures.1 c.in_err-serve_file.ensures

pub returns : goal.returns
returns g c = does_next _ _ c.in_ok-serve_file.ensures c.end_buffers.ensures
