use Rattle.std.proofs.Common.{arith}
use Rattle.resin_machine.proofs.Object_steps.{object_made}
use Rattle.resin_machine.proofs.Taken.{lost}
use Rattle.resin_machine.proofs.machine.Machine.make_object.Goals as goal

pub returns-in_err-make : goal.returns-in_err-make
returns-in_err-make c = record { acts = lost _ _ _ _ (cc (c.in_err-make.ensures.err, c.self.view_is)) c.from_residual.ensures.1 }

pub returns : goal.returns
returns c = record { acts = object_made _ _ _ _ _ c.self.view_is (omega (arith, c.len.ensures, c.if-len.false)) c.in_ok-make.ensures.number c.in_ok-make.ensures.made }
