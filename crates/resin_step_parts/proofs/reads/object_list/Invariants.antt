use Rattle.std.proofs.Common.{◌≡◌, drop, map}
use Rattle.resin_meaning_forms.specs.Under.value.Trees.{object}
use Rattle.resin_meaning_forms.specs.Under.array_fn.Filled.{filled_on, filled, in_order}
use Rattle.resin_step_parts.proofs.reads.object_list.Given as goal

abbrev pub invariant-loop-o : goal.invariant-loop-o
invariant-loop-o l = filled_on l.out (in_order (map object (drop l.o-index l.objects))) ≡ filled (in_order (map object l.objects))
