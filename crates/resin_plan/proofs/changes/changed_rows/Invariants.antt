use Rattle.std.proofs.Common.{◌≡◌, ◌++◌, drop, map}
use Rattle.resin_plan.specs.Statements as plan
use Rattle.resin_plan.proofs.changes.changed_rows.Given as goal

abbrev pub invariant-loop-row : goal.invariant-loop-row
invariant-loop-row l =
    l.out ++ map (plan.changed_row l.columns l.names l.own) (plan.chosen l.columns l.statement.condition l.others (drop l.row-index l.rows)) ≡ map (plan.changed_row l.columns l.names l.own) (plan.chosen l.columns l.statement.condition l.others l.fn.rows)
