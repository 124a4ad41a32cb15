use Rattle.std.proofs.Common.{Some, sym, ap, ◌∙◌}
use Rattle.resin_heap.specs.Under.value.declared.value.Value.TheVariants.{Null}
use Rattle.resin_machine.proofs.Variable_steps.{input_is, session_is, other_is, value_taken, put_input, put_session, put_other, taken_there}
use Rattle.resin_machine.proofs.machine.Machine.take.Goals as goal

pub returns-then-is_input-clause-value : goal.returns-then-is_input-clause-value
returns-then-is_input-clause-value c = value_taken c.args.name.now c.args.self.now _ (input_is c.args.name.now c.args.self.now _ _ c.self.view_is (sym c.is_input.ensures ∙ c.if-is_input.true) (sym c.exchange.ensures.was))

pub returns-then-is_input-clause-after : goal.returns-then-is_input-clause-after
returns-then-is_input-clause-after c = (put_input _ _ _ _ _ c.self.view_is (sym c.is_input.ensures ∙ c.if-is_input.true) c.exchange.ensures.after).0 ∙ sym (taken_there c.args.name.now c.args.self.now _ (sym (input_is c.args.name.now c.args.self.now _ _ c.self.view_is (sym c.is_input.ensures ∙ c.if-is_input.true) (sym c.exchange.ensures.was))))

pub returns-then-is_input-clause-inside : goal.returns-then-is_input-clause-inside
returns-then-is_input-clause-inside c = (put_input _ _ _ _ _ c.self.view_is (sym c.is_input.ensures ∙ c.if-is_input.true) c.exchange.ensures.after).1

pub returns-then-is_session-clause-value : goal.returns-then-is_session-clause-value
returns-then-is_session-clause-value c = value_taken c.args.name.now c.args.self.now _ (session_is c.args.name.now c.args.self.now _ _ c.self.view_is (sym c.is_input.ensures ∙ c.if-is_input.false) (sym c.is_session.ensures ∙ c.if-is_session.true) (ap Some c.replace.ensures.value))

pub returns-then-is_session-clause-after : goal.returns-then-is_session-clause-after
returns-then-is_session-clause-after c = (put_session c.args.name.now Null _ _ _ c.self.view_is (sym c.is_input.ensures ∙ c.if-is_input.false) (sym c.is_session.ensures ∙ c.if-is_session.true) c.replace.ensures.after).0 ∙ sym (taken_there c.args.name.now c.args.self.now _ (sym (session_is c.args.name.now c.args.self.now _ _ c.self.view_is (sym c.is_input.ensures ∙ c.if-is_input.false) (sym c.is_session.ensures ∙ c.if-is_session.true) (ap Some c.replace.ensures.value))))

pub returns-then-is_session-clause-inside : goal.returns-then-is_session-clause-inside
returns-then-is_session-clause-inside c = (put_session c.args.name.now Null _ _ _ c.self.view_is (sym c.is_input.ensures ∙ c.if-is_input.false) (sym c.is_session.ensures ∙ c.if-is_session.true) c.replace.ensures.after).1

pub returns-clause-value : goal.returns-clause-value
returns-clause-value c = value_taken c.args.name.now c.args.self.now _ (other_is c.args.name.now c.args.self.now _ _ c.self.view_is (sym c.is_input.ensures ∙ c.if-is_input.false) (sym c.is_session.ensures ∙ c.if-is_session.false) (sym c.exchange-2.ensures.was))

pub returns-clause-after : goal.returns-clause-after
returns-clause-after c = (put_other _ _ _ _ _ c.self.view_is (sym c.is_input.ensures ∙ c.if-is_input.false) (sym c.is_session.ensures ∙ c.if-is_session.false) c.exchange-2.ensures.after).0 ∙ sym (taken_there c.args.name.now c.args.self.now _ (sym (other_is c.args.name.now c.args.self.now _ _ c.self.view_is (sym c.is_input.ensures ∙ c.if-is_input.false) (sym c.is_session.ensures ∙ c.if-is_session.false) (sym c.exchange-2.ensures.was))))

pub returns-clause-inside : goal.returns-clause-inside
returns-clause-inside c = (put_other _ _ _ _ _ c.self.view_is (sym c.is_input.ensures ∙ c.if-is_input.false) (sym c.is_session.ensures ∙ c.if-is_session.false) c.exchange-2.ensures.after).1
