use Rattle.std.proofs.Common.{◌≡◌, drop, pos}
use Rattle.resin_sql_more.specs.Values.{sum_from}
use Rattle.resin_sql_more.proofs.values.sum_of.Given as goal

abbrev pub invariant-loop-cell : goal.invariant-loop-cell
invariant-loop-cell l = sum_from l.sum (drop l.cell-index l.cells) ≡ sum_from (pos 0) l.fn.cells
