use Rattle.std.proofs.Common.{refl, arith}
use Rattle.resin_machine.proofs.Declared_steps.{declared_acts, refused_acts}
use Rattle.resin_machine.proofs.machine.Machine.declare_class.Goals as goal

pub returns-in-Err : goal.returns-in-Err
returns-in-Err c = record { acts = refused_acts _ _ _ _ _ _ c.declare.result _ c.self.view_is refl (omega (arith, c.len.ensures.value, c.if-len.false)) (record { redeclared = c.declare.ensures.redeclared; no_parent = c.declare.ensures.no_parent }) c.in-Err.is c.in-Err.ensures.err c.class_stop.ensures }

pub returns : goal.returns
returns c = record { acts = declared_acts _ _ _ _ c.declare.result _ c.self.view_is (omega (arith, c.len.ensures.value, c.if-len.false)) (record { redeclared = c.declare.ensures.redeclared; no_parent = c.declare.ensures.no_parent }) c.in-Ok.is c.in-Ok.ensures.declared }
