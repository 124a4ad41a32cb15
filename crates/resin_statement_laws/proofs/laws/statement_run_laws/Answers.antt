use Rattle.resin_statement_laws.proofs.Runs.{runs_are_effects}
use Rattle.resin_statement_laws.proofs.More.{join_runs_are_effects, total_runs_are_effects}
use Rattle.resin_statement_laws.proofs.Fronts.{fronts_leave}
use Rattle.resin_statement_laws.proofs.Origins.{cells_keep}
use Rattle.resin_statement_laws.proofs.laws.statement_run_laws.Goals as goal

pub returns-clause-runs : goal.returns-clause-runs
returns-clause-runs c = runs_are_effects

pub returns-clause-joins : goal.returns-clause-joins
returns-clause-joins c = join_runs_are_effects

pub returns-clause-totals : goal.returns-clause-totals
returns-clause-totals c = total_runs_are_effects

pub returns-clause-fronts : goal.returns-clause-fronts
returns-clause-fronts c = fronts_leave

pub returns-clause-cells : goal.returns-clause-cells
returns-clause-cells c = cells_keep
