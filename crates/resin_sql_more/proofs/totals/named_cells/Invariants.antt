use Rattle.std.proofs.Common.{◌≡◌, [], ◌++◌, drop, map}
use Rattle.resin_rows.specs.Rows.{cells_of, row_at}
use Rattle.resin_sql_more.specs.Totals.{item_name, item_column, column_cells}
use Rattle.resin_sql_more.proofs.Kept.{kept_with}
use Rattle.resin_sql_more.proofs.totals.named_cells.Given as goal

abbrev pub invariant-loop-item : goal.invariant-loop-item
invariant-loop-item l =
    (l.names ++ map item_name (kept_with l.names (drop l.item-index l.items)) ≡ map item_name (kept_with [] l.fn.items))
    × (l.cells ++ map (λ it. column_cells l.columns (map (row_at (cells_of l.rows)) l.places) (item_column it)) (kept_with l.names (drop l.item-index l.items))
    ≡ map (λ it. column_cells l.columns (map (row_at (cells_of l.rows)) l.places) (item_column it)) (kept_with [] l.fn.items))
