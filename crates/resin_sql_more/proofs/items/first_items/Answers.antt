use Rattle.std.proofs.Common.{map, arith, sym, ◌∙◌}
use Rattle.resin_sql_more.specs.Totals.{item_name, first_items}
use Rattle.resin_sql_more.proofs.Kept.{kept_turn, kept_done, same_items}
use Rattle.resin_sql_more.proofs.items.first_items.Goals as goal

pub loop-item-preserved : goal.loop-item-preserved
loop-item-preserved c = (
  kept_turn item_name c.args.items.now c.loop-item.item-index c.item-item.result c.loop-item.names c.push_first.new.names c.loop-item.names c.push_first.new.names _ c.loop-item-test.true c.item-item.is
      c.in_ok-push_first.ensures.names c.in_ok-push_first.ensures.names c.loop-item.invariant.0,
  kept_turn (λ it. it) c.args.items.now c.loop-item.item-index c.item-item.result
      c.loop-item.names c.push_first.new.names c.loop-item.first.items c.push_first.new.first.items _ c.loop-item-test.true c.item-item.is c.in_ok-push_first.ensures.names c.in_ok-push_first.ensures.items c.loop-item.invariant.1,
)

pub returns : goal.returns
returns c =
    kept_done (λ it. it) c.args.items.now c.loop-item.item-index c.loop-item.names c.loop-item.first.items (omega (arith, c.loop-item-test.false)) c.loop-item.invariant.1 ∙ same_items (first_items c.args.items.now)
