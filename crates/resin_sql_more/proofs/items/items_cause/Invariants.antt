use Rattle.std.proofs.Common.{◌≡◌, drop}
use Rattle.resin_rows.specs.Refusals.{earlier}
use Rattle.resin_sql_more.specs.Totals.{items_cause}
use Rattle.resin_sql_more.proofs.items.items_cause.Given as goal

abbrev pub invariant-loop-item : goal.invariant-loop-item
invariant-loop-item l = earlier l.cause (items_cause l.columns (drop l.item-index l.items)) ≡ items_cause l.columns l.fn.items
