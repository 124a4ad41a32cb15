use Rattle.std.proofs.Common.{◌≡◌, drop}
use Rattle.std.specs.Prelude.{map}
use Rattle.resin_ops.specs.Under.value.Trees.{text}
use Rattle.resin_array_fn.specs.Filled.{filled_on, in_order}
use Rattle.resin_array_fn.specs.Rows.{list_of_texts}
use Rattle.resin_array_fn.proofs.texts.list_of.Given as goal

abbrev pub invariant-loop-text : goal.invariant-loop-text
invariant-loop-text l = filled_on l.out (in_order (map text (drop l.text-index l.texts))) ≡ list_of_texts l.texts
