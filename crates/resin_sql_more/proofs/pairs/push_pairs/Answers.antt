use Rattle.std.proofs.Common.{refl, ap, ◌∙◌}
use Rattle.resin_rows.specs.Cells.{beside}
use Rattle.resin_rows.specs.Rows.{cells_of, row_at}
use Rattle.resin_sql_more.specs.Joins.{pair_at, pair_holds}
use Rattle.resin_sql_more.proofs.Pairing.{pair_turn}
use Rattle.resin_sql_more.proofs.pairs.push_pairs.Goals as goal

pub loop-i-preserved : goal.loop-i-preserved
loop-i-preserved c =
    pair_turn (pair_at c.args.width (cells_of c.args.firsts.now) (cells_of c.args.lasts.now)) (pair_holds c.args.statement.now c.args.values.now c.args.columns.now)
    (beside c.args.width (row_at (cells_of c.args.firsts.now) c.args.at)) c.args.lasts.now c.loop-i.i (c.args.at, c.loop-i.i) c.loop-i.pairs.items c.push_if.new.pairs.items c.pair_holds-is.result _
    c.loop-i-test.true refl
    (c.pair_holds-is.ensures ∙ ap (pair_holds c.args.statement.now c.args.values.now c.args.columns.now) (c.beside-cells.ensures ∙ (λ i. beside c.args.width (c.cells_at.ensures i) (c.cells_at-in-loop-i.ensures i))))
    c.in_ok-push_if.ensures c.loop-i.invariant
