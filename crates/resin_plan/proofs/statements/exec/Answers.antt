use Rattle.std.proofs.Common.{sym, ap}
use Rattle.resin_plan.specs.Statements.{plan}
use Rattle.resin_plan.proofs.Blaming.{blamed}
use Rattle.resin_plan.proofs.Runs.{ends_same}
use Rattle.resin_plan.proofs.statements.exec.Goals as goal

pub returns-clause-plan : goal.returns-clause-plan
returns-clause-plan g c = ends_same (sym (ap (plan c.args.statement.now) c.as_slice.ensures)) c.carry_out.ensures

pub returns-clause-cause : goal.returns-clause-cause
returns-clause-cause g c = blamed c.carry_out.ensures
