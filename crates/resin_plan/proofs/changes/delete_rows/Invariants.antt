use Rattle.std.proofs.Common.{◌≤◌, drop}
use Rattle.resin_plan.specs.Plans.{Leads}
use Rattle.resin_plan.specs.Statements as plan
use Rattle.resin_plan.specs.TableCalls.{keeping}
use Rattle.resin_plan.proofs.changes.delete_rows.Given as goal

abbrev pub invariant-loop-number : goal.invariant-loop-number
invariant-loop-number g l =
    Leads (plan.delete_rows l.scanned l.table l.numbers 0) (keeping (g.T.Tables.stored l.fn.tables) (g.T.Tables.faults l.fn.tables) (g.T.Tables.answers l.fn.tables) l.fn.calls)
    (plan.delete_rows l.scanned l.table (drop l.number-index l.numbers) l.count) (keeping (g.T.Tables.stored l.tables) (g.T.Tables.faults l.tables) (g.T.Tables.answers l.tables) l.calls)
    × (l.count ≤ l.number-index)
