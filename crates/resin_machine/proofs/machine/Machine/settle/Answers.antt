use Rattle.std.proofs.Common.{refl}
use Rattle.resin_machine.proofs.Throw_steps.{loosely_gives}
use Rattle.resin_machine.proofs.machine.Machine.settle.Goals as goal

pub returns-in-Ok : goal.returns-in-Ok
returns-in-Ok g c = record { acts = rw c.in-Ok.is (loosely_gives _ _ _ refl) }

pub returns-in-Err : goal.returns-in-Err
returns-in-Err g c = record { acts = rw c.in-Err.is c.stopped.ensures.acts }
