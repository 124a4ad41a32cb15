use Rattle.resin_step_functions.specs.Under.meaning_forms.Invoke.{item_value, with_items}
use Rattle.resin_step_functions.specs.Under.value.Changes.{empty}
use Rattle.std.proofs.Common.{Ok, drop, map, ◌≡◌}
use Rattle.resin_step_objects.proofs.constants.+constant.Given as goal

abbrev pub invariant-constant_array-loop-item : goal.invariant-constant_array-loop-item
invariant-constant_array-loop-item l =
    with_items (Ok empty) (map item_value l.items) ≡ with_items (Ok l.a) (map item_value (drop l.item-index l.items))
