use Rattle.std.proofs.Common.{refl}
use Rattle.resin_machine.proofs.Taken.{lost}
use Rattle.resin_machine.proofs.machine.Machine.declare_function.Goals as goal

pub returns-in_err-name : goal.returns-in_err-name
returns-in_err-name c = record { acts = lost _ _ _ _ refl c.from_residual.ensures.1 }

pub returns-in_err-clone : goal.returns-in_err-clone
returns-in_err-clone c = record { acts = lost _ _ _ _ c.self.view_is c.from_residual-in_err-clone.ensures.1 }

pub returns-in_err-put : goal.returns-in_err-put
returns-in_err-put c = record { acts = lost _ _ _ _ (cc (c.in_err-put.ensures.err, c.self.view_is)) c.from_residual-in_err-put.ensures.1 }
