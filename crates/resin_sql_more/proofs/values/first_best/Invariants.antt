use Rattle.std.proofs.Common.{◌≡◌, drop}
use Rattle.resin_sql_more.specs.Values.{first_best}
use Rattle.resin_sql_more.proofs.values.first_best.Given as goal

abbrev pub invariant-loop-cell : goal.invariant-loop-cell
invariant-loop-cell l = first_best l.better l.best (drop l.cell-index l.cells) ≡ first_best l.better l.first l.fn.cells
