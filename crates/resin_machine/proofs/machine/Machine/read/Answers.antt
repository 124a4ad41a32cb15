use Rattle.std.proofs.Common.{refl}
use Rattle.resin_machine.proofs.Variable_steps.{variable_read, nothing_read}
use Rattle.resin_machine.proofs.Taken.{lost}
use Rattle.resin_machine.proofs.machine.Machine.read.Goals as goal

pub returns-in_err-clone-in-Some : goal.returns-in_err-clone-in-Some
returns-in_err-clone-in-Some c = record { acts = lost _ _ _ _ refl c.from_residual.ensures.1 }

pub returns-in_ok-clone-in-Some : goal.returns-in_ok-clone-in-Some
returns-in_ok-clone-in-Some c = record { acts = variable_read c.args.name.now _ _ _ c.in-Some.ensures c.in_ok-clone-in-Some.ensures.cases }

pub returns-in-None : goal.returns-in-None
returns-in-None c = record { acts = nothing_read c.args.name.now _ c.in-None.ensures }
