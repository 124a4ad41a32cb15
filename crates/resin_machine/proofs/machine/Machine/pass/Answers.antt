use Rattle.std.proofs.Common.{sym, subst}
use Rattle.resin_machine.specs.State.{State}
use Rattle.resin_stage.specs.Writes.{MayAsk}
use Rattle.resin_machine.proofs.Write_steps.{passed_acts, stage_lost}
use Rattle.resin_machine.proofs.machine.Machine.pass.Goals as goal

pub passed-requires : goal.passed-requires
passed-requires c = subst (λ (s : State). MayAsk c.args.write c.args.policy s.stage.journal s.stage.writes) (sym c.self.view_is) c.requires.may

pub returns-in_err-passed : goal.returns-in_err-passed
returns-in_err-passed c = record { acts = stage_lost _ _ _ _ _ c.self.view_is c.in_err-passed.ensures.err c.from_residual.ensures.1 }

pub returns : goal.returns
returns c = record { acts = passed_acts _ _ _ _ _ c.self.view_is c.requires.awake c.in_ok-passed.ensures.ok }
