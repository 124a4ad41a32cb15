use Rattle.std.proofs.Common.{◌≡◌, ◌++◌, drop, map}
use Rattle.resin_sql_more.specs.Joins.{of_table}
use Rattle.resin_sql_more.proofs.joins.push_columns.Given as goal

abbrev pub invariant-loop-column : goal.invariant-loop-column
invariant-loop-column l = l.out ++ map (of_table l.table) (drop l.column-index l.columns) ≡ l.initial.out ++ map (of_table l.table) l.fn.columns
