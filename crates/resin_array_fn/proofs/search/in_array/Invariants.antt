use Rattle.std.proofs.Common.{◌≡◌, drop}
use Rattle.resin_ops.specs.Under.value.Seen.{tree_of}
use Rattle.resin_array_fn.specs.Searches.{holds, in_array}
use Rattle.resin_array_fn.proofs.search.in_array.Given as goal

abbrev pub invariant-loop-i : goal.invariant-loop-i
invariant-loop-i l = holds l.strict (tree_of l.needle) (drop l.i l.a.entries) l.ticks.left ≡ in_array (tree_of l.needle) l.a l.strict l.fn.ticks.left
