use Rattle.std.proofs.Common.{sym, subst}
use Rattle.resin_machine.specs.State.{State}
use Rattle.resin_stage.specs.Writes.{MaySend}
use Rattle.resin_machine.proofs.Write_steps.{header_acts, sending_lost}
use Rattle.resin_machine.proofs.machine.Machine.send_header.Goals as goal

pub send_header-requires-clause-may : goal.send_header-requires-clause-may
send_header-requires-clause-may c = subst (λ (s : State). MaySend c.args.write c.args.text s.stage.journal s.stage.writes) (sym c.self.view_is) c.requires.may.may

pub send_header-requires-clause-line : goal.send_header-requires-clause-line
send_header-requires-clause-line c = c.requires.line

pub returns-in_err-send_header : goal.returns-in_err-send_header
returns-in_err-send_header c = record { acts = sending_lost _ _ _ _ _ c.self.view_is c.requires.may.awake c.in_err-send_header.ensures.err.0 c.from_residual.ensures.1 }

pub returns : goal.returns
returns c = record { acts = header_acts _ _ _ _ _ _ _ _ c.self.view_is c.requires.may.awake c.in_ok-send_header.ensures.ok c.in_ok-send_header.ensures.tied }
