use Rattle.std.proofs.Common.{◌≡◌, ◌++◌, drop, map, filter}
use Rattle.resin_rows.specs.Rows.{cells_of}
use Rattle.resin_sql_more.specs.Joins.{pair_at, pair_holds, pairs}
use Rattle.resin_sql_more.proofs.pairs.chosen_places.Given as goal

abbrev pub invariant-loop-at : goal.invariant-loop-at
invariant-loop-at l =
    map (pair_at l.width (cells_of l.firsts) (cells_of l.lasts)) l.pairs.items
    ++ filter (pair_holds l.statement l.values l.columns) (pairs l.width (cells_of (drop l.at l.firsts)) (cells_of l.lasts))
    ≡ filter (pair_holds l.statement l.values l.columns) (pairs l.width (cells_of l.firsts) (cells_of l.lasts))
