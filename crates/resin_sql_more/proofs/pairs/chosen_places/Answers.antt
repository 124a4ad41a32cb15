use Rattle.std.proofs.Common.{map}
use Rattle.resin_rows.specs.Cells.{beside}
use Rattle.resin_rows.specs.Rows.{cells_of}
use Rattle.resin_sql_more.specs.Joins.{pair_at, pair_holds}
use Rattle.resin_sql_more.proofs.Pairing.{row_turn}
use Rattle.resin_sql_more.proofs.pairs.chosen_places.Goals as goal

pub loop-at-preserved : goal.loop-at-preserved
loop-at-preserved c =
    row_turn (pair_at c.args.width (cells_of c.args.firsts.now) (cells_of c.args.lasts.now)) (pair_holds c.args.statement.now c.args.values.now c.args.columns.now)
    (λ a. map (beside c.args.width a) (cells_of c.args.lasts.now)) c.args.firsts.now c.loop-at.at c.loop-at.pairs.items c.push_pairs.new.pairs.items _ c.loop-at-test.true c.in_ok-push_pairs.ensures c.loop-at.invariant
