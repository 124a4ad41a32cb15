use Rattle.std.proofs.Common.{◌≡◌, ◌++◌, drop, map}
use Rattle.resin_rows.specs.Rows.{answered_row, cells_of}
use Rattle.resin_sql_more.specs.Joins.{pair_at}
use Rattle.resin_sql_more.proofs.pairs.answered_pairs.Given as goal

abbrev pub invariant-loop-pair : goal.invariant-loop-pair
invariant-loop-pair l =
    l.rows ++ map (λ p. answered_row l.columns l.names (pair_at l.width (cells_of l.firsts) (cells_of l.lasts) p)) (drop l.pair-index l.pairs)
    ≡ map (λ p. answered_row l.columns l.names (pair_at l.width (cells_of l.firsts) (cells_of l.lasts) p)) l.fn.pairs
