use Rattle.resin_inputs.specs.Under.value.Changes.{empty}
use Rattle.resin_interp.specs.Under.machine.Variables.{set_session}
use Rattle.resin_interp.proofs.meaning_lemmas.Composition.{does_act}
use Rattle.resin_request.proofs.Stored.{lost_step}
use Rattle.resin_request.proofs.sessions.set_empty.Goals as goal

pub returns-in_err-empty : goal.returns-in_err-empty
returns-in_err-empty c = λ f t k. lost_step (set_session empty) _ c.from_residual.ensures.1

pub returns : goal.returns
returns c = λ f t k. does_act _ f t k (rw c.in_ok-empty.ensures at c.set_session.ensures)
