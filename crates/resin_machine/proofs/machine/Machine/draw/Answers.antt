use Rattle.std.proofs.Common.{refl, sym, ap, ◌∙◌, arith}
use Rattle.resin_machine.specs.State.{State}
use Rattle.resin_machine.proofs.Write_steps.{number_drawn, number_in_check, no_number}
use Rattle.resin_machine.proofs.machine.Machine.draw.Goals as goal

pub returns-then-self-clause-acts : goal.returns-then-self-clause-acts
returns-then-self-clause-acts c = number_in_check _ _ _ refl (ap (λ (s : State). s.line) c.self.view_is) (ap (λ (s : State). s.checking) (sym c.self.view_is) ∙ c.if-self.true)

pub returns-in-None-clause-acts : goal.returns-in-None-clause-acts
returns-in-None-clause-acts c = no_number _ _ _ c.self.view_is c.if-self.false c.in-None.ensures.none.0 c.in-None.ensures.none.1

pub returns-clause-acts : goal.returns-clause-acts
returns-clause-acts c = number_drawn _ _ _ _ c.self.view_is c.if-self.false (omega (arith, c.in-Some.ensures.some.0)) c.in-Some.ensures.some.0 c.in-Some.ensures.some.1

pub returns-clause-begun : goal.returns-clause-begun
returns-clause-begun c = record { way = c.in-Some.ensures.begun; awake = c.if-self.false }
