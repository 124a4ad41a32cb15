use Rattle.std.proofs.Common.{map, arith}
use Rattle.resin_rows.specs.Rows.{cells_of, row_at}
use Rattle.resin_sql_more.specs.Totals.{item_name, item_column, column_cells}
use Rattle.resin_sql_more.proofs.Kept.{kept_turn, kept_done}
use Rattle.resin_sql_more.proofs.totals.named_cells.Goals as goal

pub loop-item-preserved : goal.loop-item-preserved
loop-item-preserved c = (
  kept_turn item_name c.args.items.now c.loop-item.item-index c.item-item.result c.loop-item.names c.push_item.new.names c.loop-item.names c.push_item.new.names _ c.loop-item-test.true c.item-item.is
      c.in_ok-push_item.ensures.names c.in_ok-push_item.ensures.names c.loop-item.invariant.0,
  kept_turn (λ it. column_cells c.args.columns.now (map (row_at (cells_of c.args.rows.now)) c.args.places.now) (item_column it)) c.args.items.now c.loop-item.item-index c.item-item.result
      c.loop-item.names c.push_item.new.names c.loop-item.cells c.push_item.new.cells _ c.loop-item-test.true c.item-item.is c.in_ok-push_item.ensures.names c.in_ok-push_item.ensures.cells c.loop-item.invariant.1,
)

pub returns-clause-names : goal.returns-clause-names
returns-clause-names c = kept_done item_name c.args.items.now c.loop-item.item-index c.loop-item.names c.loop-item.names (omega (arith, c.loop-item-test.false)) c.loop-item.invariant.0

pub returns-clause-cells : goal.returns-clause-cells
returns-clause-cells c =
    kept_done (λ it. column_cells c.args.columns.now (map (row_at (cells_of c.args.rows.now)) c.args.places.now) (item_column it)) c.args.items.now c.loop-item.item-index c.loop-item.names c.loop-item.cells
    (omega (arith, c.loop-item-test.false)) c.loop-item.invariant.1
