use Rattle.std.proofs.Common.{◌≡◌, ◌++◌, drop, map, filter}
use Rattle.resin_rows.specs.Cells.{beside}
use Rattle.resin_rows.specs.Rows.{cells_of, row_at}
use Rattle.resin_sql_more.specs.Joins.{pair_at, pair_holds}
use Rattle.resin_sql_more.proofs.pairs.push_pairs.Given as goal

abbrev pub invariant-loop-i : goal.invariant-loop-i
invariant-loop-i l =
    map (pair_at l.width (cells_of l.firsts) (cells_of l.lasts)) l.pairs.items
    ++ filter (pair_holds l.statement l.values l.columns) (map (beside l.width (row_at (cells_of l.firsts) l.at)) (cells_of (drop l.i l.lasts)))
    ≡ map (pair_at l.width (cells_of l.firsts) (cells_of l.lasts)) l.initial.pairs.items
    ++ filter (pair_holds l.statement l.values l.columns) (map (beside l.width (row_at (cells_of l.firsts) l.at)) (cells_of l.lasts))
