use Rattle.std.proofs.Common.{ap, arith}
use Rattle.resin_machine.specs.State.{State}
use Rattle.resin_machine.proofs.Throw_steps.{thrown_loosely, none_thrown_as, heap_lost, loosely_lost}
use Rattle.resin_machine.proofs.machine.Machine.throw.Goals as goal

pub returns-then-len : goal.returns-then-len
returns-then-len g c = record { acts = none_thrown_as _ _ _ _ _ c.self.view_is (ap (λ (s : State). s.line) c.self.view_is) (omega (arith, c.len.ensures, c.if-len.true)) }

pub returns-in_err-text : goal.returns-in_err-text
returns-in_err-text g c = record { acts = loosely_lost _ _ _ c.from_residual.ensures.1 }

pub make_exception-requires : goal.make_exception-requires
make_exception-requires g c = omega (arith, c.len.ensures, c.if-len.false)

pub returns-in_err-o : goal.returns-in_err-o
returns-in_err-o g c = record { acts = heap_lost _ _ _ _ _ c.self.view_is c.from_residual-in_err-o.ensures.1 }

pub returns : goal.returns
returns g c = record { acts = thrown_loosely _ _ _ _ _ _ c.self.view_is (omega (arith, c.len.ensures, c.if-len.false)) c.in_ok-o.ensures.number (rw (← c.in_ok-text.ensures) c.in_ok-o.ensures.made) }
