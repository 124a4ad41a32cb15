use Rattle.std.proofs.Common.{sym, ◌∙◌}
use Rattle.resin_machine.proofs.Taken.{lost}
use Rattle.resin_machine.proofs.Variable_steps.{bound_input, bound_session, bound_other}
use Rattle.resin_machine.proofs.machine.Machine.bind_global.Goals as goal

pub returns-then-is_input : goal.returns-then-is_input
returns-then-is_input c = record { acts = bound_input c.args.name.now _ (sym c.is_input.ensures ∙ c.if-is_input.true) }

pub returns-then-is_session : goal.returns-then-is_session
returns-then-is_session c = record { acts = bound_session c.args.name.now _ (sym c.is_input.ensures ∙ c.if-is_input.false) (sym c.is_session.ensures ∙ c.if-is_session.true) }

pub returns-in_err-bind : goal.returns-in_err-bind
returns-in_err-bind c = record { acts = lost _ _ _ _ (cc (c.in_err-bind.ensures.err, c.self.view_is)) c.from_residual.ensures.1 }

pub returns : goal.returns
returns c = record { acts = bound_other _ _ _ _ c.self.view_is (sym c.is_input.ensures ∙ c.if-is_input.false) (sym c.is_session.ensures ∙ c.if-is_session.false) c.in_ok-bind.ensures.ok }
