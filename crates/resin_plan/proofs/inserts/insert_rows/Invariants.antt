use Rattle.std.proofs.Common.{◌≤◌, drop}
use Rattle.resin_plan.specs.Plans.{Leads}
use Rattle.resin_plan.specs.Rows.{inserted}
use Rattle.resin_plan.specs.Statements as plan
use Rattle.resin_plan.specs.TableCalls.{keeping}
use Rattle.resin_plan.proofs.inserts.insert_rows.Given as goal

abbrev pub invariant-loop-row : goal.invariant-loop-row
invariant-loop-row g l =
    Leads (plan.insert_rows l.table (inserted l.columns l.names l.rows l.values) 0) (keeping (g.T.Tables.stored l.fn.tables) (g.T.Tables.faults l.fn.tables) (g.T.Tables.answers l.fn.tables) l.fn.calls)
    (plan.insert_rows l.table (inserted l.columns l.names (drop l.row-index l.rows) l.left) l.count) (keeping (g.T.Tables.stored l.tables) (g.T.Tables.faults l.tables) (g.T.Tables.answers l.tables) l.calls)
    × (l.count ≤ l.row-index)
