use Rattle.std.proofs.Common.{sym, ap}
use Rattle.resin_sql_more.specs.Joins.{join_plan}
use Rattle.resin_sql_more.proofs.Blaming.{blamed}
use Rattle.resin_sql_more.proofs.Runs.{ends_same}
use Rattle.resin_sql_more.proofs.Staying.{stays, join_asks}
use Rattle.resin_sql_more.proofs.joins.exec_join.Goals as goal

pub returns-clause-plan : goal.returns-clause-plan
returns-clause-plan g c = ends_same (sym (ap (λ vs. join_plan c.args.statement.now vs c.args.left) c.as_slice.ensures)) c.carry_out.ensures

pub returns-clause-cause : goal.returns-clause-cause
returns-clause-cause g c = blamed c.carry_out.ensures

pub returns-clause-same : goal.returns-clause-same
returns-clause-same g c = stays (join_asks c.args.statement.now c.as_slice.result.now c.args.left) c.carry_out.ensures
