use Rattle.std.proofs.Common.{◌≡◌, drop, map}
use Rattle.resin_meaning_forms.specs.Under.value.Seen.{tree_of}
use Rattle.resin_meaning_forms.specs.Under.array_fn.Filled.{filled_on, filled, in_order}
use Rattle.resin_step_parts.proofs.reads.list.Given as goal

abbrev pub invariant-loop-v : goal.invariant-loop-v
invariant-loop-v l = filled_on l.out (in_order (map tree_of (drop l.v-index l.values))) ≡ filled (in_order (map tree_of l.values))
