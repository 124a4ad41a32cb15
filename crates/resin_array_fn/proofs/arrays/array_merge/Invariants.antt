use Rattle.std.proofs.Common.{◌≡◌, drop}
use Rattle.resin_ops.specs.Under.value.Seen.{trees_of}
use Rattle.resin_array_fn.specs.Rows.{merged_on, array_merge}
use Rattle.resin_array_fn.proofs.arrays.array_merge.Given as goal

abbrev pub invariant-loop-value : goal.invariant-loop-value
invariant-loop-value l = merged_on l.out (trees_of (drop l.value-index l.arrays)) ≡ array_merge (trees_of l.arrays)
