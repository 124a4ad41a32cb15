use Rattle.std.proofs.Common.{refl, sym, ◌∙◌}
use Rattle.resin_machine.proofs.Variable_steps.{input_is, session_is, other_is}
use Rattle.resin_machine.proofs.machine.Machine.variable.Goals as goal

pub returns-then-is_input : goal.returns-then-is_input
returns-then-is_input c = input_is _ _ _ _ c.self.view_is (sym c.is_input.ensures ∙ c.if-is_input.true) c.get.ensures

pub returns-then-is_session : goal.returns-then-is_session
returns-then-is_session c = session_is c.args.name.now _ _ _ c.self.view_is (sym c.is_input.ensures ∙ c.if-is_input.false) (sym c.is_session.ensures ∙ c.if-is_session.true) refl

pub returns-else-is_session : goal.returns-else-is_session
returns-else-is_session c = other_is _ _ _ _ c.self.view_is (sym c.is_input.ensures ∙ c.if-is_input.false) (sym c.is_session.ensures ∙ c.if-is_session.false) c.get-else-is_session.ensures
