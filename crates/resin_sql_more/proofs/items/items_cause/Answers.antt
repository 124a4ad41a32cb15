use Rattle.std.proofs.Common.{ap, ◌∙◌, arith}
use Rattle.resin_rows.specs.Refusals.{earlier}
use Rattle.resin_sql_more.proofs.Causing.{items_step, items_done}
use Rattle.resin_sql_more.proofs.items.items_cause.Goals as goal

pub loop-item-preserved : goal.loop-item-preserved
loop-item-preserved c =
    items_step c.args.columns.now c.args.items.now c.loop-item.item-index c.loop-item.cause _ c.loop-item.invariant c.item-item.result c.earlier-cause.result c.loop-item-test.true c.item-item.is
    (c.earlier-cause.ensures ∙ ap (earlier c.loop-item.cause) c.item_cause.ensures)

pub returns : goal.returns
returns c = items_done c.args.columns.now c.args.items.now c.loop-item.item-index c.loop-item.cause _ c.loop-item.invariant (omega (arith, c.loop-item-test.false))
