use Rattle.std.proofs.Common.{◌≤◌, drop}
use Rattle.resin_plan.specs.Plans.{Leads}
use Rattle.resin_plan.specs.Statements as plan
use Rattle.resin_plan.specs.TableCalls.{keeping}
use Rattle.resin_plan.proofs.changes.update_rows.Given as goal

abbrev pub invariant-loop-row : goal.invariant-loop-row
invariant-loop-row g l =
    Leads (plan.update_rows l.scanned l.table l.rows 0) (keeping (g.T.Tables.stored l.fn.tables) (g.T.Tables.faults l.fn.tables) (g.T.Tables.answers l.fn.tables) l.fn.calls)
    (plan.update_rows l.scanned l.table (drop l.row-index l.rows) l.count) (keeping (g.T.Tables.stored l.tables) (g.T.Tables.faults l.tables) (g.T.Tables.answers l.tables) l.calls)
    × (l.count ≤ l.row-index)
