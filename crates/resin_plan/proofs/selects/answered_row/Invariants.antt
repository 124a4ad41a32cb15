use Rattle.std.proofs.Common.{◌≡◌, ◌++◌, drop}
use Rattle.resin_plan.specs.Rows.{answered_row}
use Rattle.resin_plan.proofs.selects.answered_row.Given as goal

abbrev pub invariant-loop-name : goal.invariant-loop-name
invariant-loop-name l = l.row ++ answered_row l.columns (drop l.name-index l.names) l.cells ≡ answered_row l.columns l.fn.names l.cells
