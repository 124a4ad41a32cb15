use Rattle.resin_machine.proofs.Variable_steps.{session_set}
use Rattle.resin_machine.proofs.machine.Machine.set_session.Goals as goal

pub returns : goal.returns
returns c = record { acts = session_set c.args.a _ _ c.self.view_is }
