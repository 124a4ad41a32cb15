use Rattle.std.proofs.Common.{sym, subst}
use Rattle.resin_machine.specs.State.{State}
use Rattle.resin_stage.specs.Writes.{MaySend}
use Rattle.resin_machine.proofs.Write_steps.{status_acts, stage_lost}
use Rattle.resin_machine.proofs.machine.Machine.send_status.Goals as goal

pub send_status-requires-clause-may : goal.send_status-requires-clause-may
send_status-requires-clause-may c = subst (λ (s : State). MaySend c.args.write c.args.text s.stage.journal s.stage.writes) (sym c.self.view_is) c.requires.may.may

pub send_status-requires-clause-told : goal.send_status-requires-clause-told
send_status-requires-clause-told c = c.requires.told

pub returns-in_err-send_status : goal.returns-in_err-send_status
returns-in_err-send_status c = record { acts = stage_lost _ _ _ _ _ c.self.view_is c.in_err-send_status.ensures.err c.from_residual.ensures.1 }

pub returns : goal.returns
returns c = record { acts = status_acts _ _ _ _ _ _ c.self.view_is c.requires.may.awake c.in_ok-send_status.ensures.ok c.in_ok-send_status.ensures.tied }
