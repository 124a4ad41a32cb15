use Rattle.std.proofs.Common.{sym, subst}
use Rattle.resin_machine.specs.State.{State}
use Rattle.resin_stage.specs.Writes.{MaySend}
use Rattle.resin_machine.proofs.Write_steps.{mail_acts, sending_lost}
use Rattle.resin_machine.proofs.machine.Machine.send_mail.Goals as goal

pub send_mail-requires : goal.send_mail-requires
send_mail-requires c = subst (λ (s : State). MaySend c.args.write c.args.text s.stage.journal s.stage.writes) (sym c.self.view_is) c.requires.may

pub returns-in_err-send_mail : goal.returns-in_err-send_mail
returns-in_err-send_mail c = record { acts = sending_lost _ _ _ _ _ c.self.view_is c.requires.awake c.in_err-send_mail.ensures.err.0 c.from_residual.ensures.1 }

pub returns : goal.returns
returns c = record { acts = mail_acts _ _ _ _ _ c.self.view_is c.requires.awake c.in_ok-send_mail.ensures.ok c.in_ok-send_mail.ensures.tied }
