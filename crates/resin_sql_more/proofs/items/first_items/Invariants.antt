use Rattle.std.proofs.Common.{◌≡◌, [], ◌++◌, drop, map}
use Rattle.resin_sql_more.specs.Totals.{item_name}
use Rattle.resin_sql_more.proofs.Kept.{kept_with}
use Rattle.resin_sql_more.proofs.items.first_items.Given as goal

abbrev pub invariant-loop-item : goal.invariant-loop-item
invariant-loop-item l =
    (l.names ++ map item_name (kept_with l.names (drop l.item-index l.items)) ≡ map item_name (kept_with [] l.fn.items))
    × (l.first.items ++ map (λ it. it) (kept_with l.names (drop l.item-index l.items)) ≡ map (λ it. it) (kept_with [] l.fn.items))
