use Rattle.std.proofs.Common.{◌≡◌, ◌++◌, drop, map, Some}
use Rattle.resin_rows.specs.Rows.{cells_of, row_at}
use Rattle.resin_sql_more.specs.Totals.{column_cells}
use Rattle.resin_sql_more.proofs.items.cells_of_column.Given as goal

abbrev pub invariant-loop-at : goal.invariant-loop-at
invariant-loop-at l =
    l.cells ++ column_cells l.columns (map (row_at (cells_of l.rows)) (drop l.at-index l.places)) (Some l.column) ≡ column_cells l.columns (map (row_at (cells_of l.rows)) l.fn.places) (Some l.column)
