use Rattle.std.proofs.Common.{sym, ◌∙◌}
use Rattle.resin_machine.proofs.Taken.{lost}
use Rattle.resin_machine.proofs.Variable_steps.{assigned_input, assigned_other, assigned_session}
use Rattle.resin_machine.proofs.machine.Machine.assign.Goals as goal

pub returns-in_err-put : goal.returns-in_err-put
returns-in_err-put c = record { acts = lost _ _ _ _ (cc (c.in_err-put.ensures.err, c.self.view_is)) c.from_residual.ensures.1 }

pub returns-then-is_input : goal.returns-then-is_input
returns-then-is_input c = record { acts = assigned_input _ _ _ _ _ c.self.view_is (sym c.is_input.ensures ∙ c.if-is_input.true) c.in_ok-put.ensures.ok }

pub returns-then-is_session : goal.returns-then-is_session
returns-then-is_session c = record { acts = assigned_session c.args.name.now _ _ _ c.self.view_is (sym c.is_input.ensures ∙ c.if-is_input.false) (sym c.is_session.ensures ∙ c.if-is_session.true) }

pub returns-in_err-set : goal.returns-in_err-set
returns-in_err-set c = record { acts = lost _ _ _ _ (cc (c.in_err-set.ensures.err, c.self.view_is)) c.from_residual-in_err-set.ensures.1 }

pub returns : goal.returns
returns c = record { acts = assigned_other _ _ _ _ _ c.self.view_is (sym c.is_input.ensures ∙ c.if-is_input.false) (sym c.is_session.ensures ∙ c.if-is_session.false) c.in_ok-set.ensures.ok }
