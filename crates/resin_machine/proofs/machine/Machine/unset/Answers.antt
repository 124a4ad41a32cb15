use Rattle.std.proofs.Common.{sym, ◌∙◌}
use Rattle.resin_machine.proofs.Variable_steps.{unset_input, unset_session, unset_other}
use Rattle.resin_machine.proofs.machine.Machine.unset.Goals as goal

pub returns-then-is_input-clause-after : goal.returns-then-is_input-clause-after
returns-then-is_input-clause-after c = (unset_input _ _ _ _ c.self.view_is (sym c.is_input.ensures ∙ c.if-is_input.true) c.remove.ensures).0

pub returns-then-is_input-clause-inside : goal.returns-then-is_input-clause-inside
returns-then-is_input-clause-inside c = (unset_input _ _ _ _ c.self.view_is (sym c.is_input.ensures ∙ c.if-is_input.true) c.remove.ensures).1

pub returns-then-is_session-clause-after : goal.returns-then-is_session-clause-after
returns-then-is_session-clause-after c = (unset_session c.args.name.now _ _ c.self.view_is (sym c.is_input.ensures ∙ c.if-is_input.false) (sym c.is_session.ensures ∙ c.if-is_session.true)).0

pub returns-then-is_session-clause-inside : goal.returns-then-is_session-clause-inside
returns-then-is_session-clause-inside c = (unset_session c.args.name.now _ _ c.self.view_is (sym c.is_input.ensures ∙ c.if-is_input.false) (sym c.is_session.ensures ∙ c.if-is_session.true)).1

pub returns-clause-after : goal.returns-clause-after
returns-clause-after c = (unset_other _ _ _ _ c.self.view_is (sym c.is_input.ensures ∙ c.if-is_input.false) (sym c.is_session.ensures ∙ c.if-is_session.false) c.unset.ensures).0

pub returns-clause-inside : goal.returns-clause-inside
returns-clause-inside c = (unset_other _ _ _ _ c.self.view_is (sym c.is_input.ensures ∙ c.if-is_input.false) (sym c.is_session.ensures ∙ c.if-is_session.false) c.unset.ensures).1
