use Rattle.std.proofs.Common.{refl}
use Rattle.resin_machine.proofs.Buffer_steps.{buffered_acts, refused_loosely}
use Rattle.resin_machine.proofs.machine.Machine.buffer.Goals as goal

pub returns-in-Err : goal.returns-in-Err
returns-in-Err c = record { acts = refused_loosely _ _ _ _ _ _ _ c.self.view_is refl c.in-Err.ensures.others c.in-Err.ensures.joins c.text_stop.ensures }

pub returns : goal.returns
returns c = record { acts = buffered_acts _ _ _ _ c.self.view_is c.in-Ok.ensures.others c.in-Ok.ensures.joins.0 c.in-Ok.ensures.joins.1 }
