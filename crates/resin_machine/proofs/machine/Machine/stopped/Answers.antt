use Rattle.std.proofs.Common.{refl, ap}
use Rattle.resin_machine.specs.State.{State}
use Rattle.resin_machine.proofs.Throw_steps.{settled_throw, settled_fault}
use Rattle.resin_machine.proofs.machine.Machine.stopped.Goals as goal

pub returns-in-Throw : goal.returns-in-Throw
returns-in-Throw g c = record { acts = settled_throw _ _ _ _ _ _ _ refl c.in-Throw.is c.class_of_error.ensures c.throw.ensures.acts }

pub returns-in-Fault : goal.returns-in-Fault
returns-in-Fault g c = record { acts = settled_fault _ _ _ _ _ refl c.in-Fault.is (ap (λ (s : State). s.line) c.self.view_is) }
