use Rattle.resin_machine.proofs.Buffer_steps.{opened_acts}
use Rattle.resin_machine.proofs.Write_steps.{stage_lost}
use Rattle.resin_machine.proofs.machine.Machine.open_buffer.Goals as goal

pub returns-in_err-open_buffer : goal.returns-in_err-open_buffer
returns-in_err-open_buffer c = record { acts = stage_lost _ _ _ _ _ c.self.view_is c.in_err-open_buffer.ensures.err c.from_residual.ensures.1 }

pub returns : goal.returns
returns c = record { acts = opened_acts _ _ _ c.self.view_is c.in_ok-open_buffer.ensures.ok }
