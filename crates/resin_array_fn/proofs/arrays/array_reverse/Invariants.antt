use Rattle.std.proofs.Common.{◌≡◌, ◌≤◌, length, take}
use Rattle.std.specs.Prelude.{reverse}
use Rattle.resin_array_fn.specs.Filled.{filled_on, with_kept_keys}
use Rattle.resin_array_fn.specs.Rows.{array_reverse}
use Rattle.resin_array_fn.proofs.arrays.array_reverse.Given as goal

abbrev pub invariant-loop-left : goal.invariant-loop-left
invariant-loop-left l = record {
  within : l.left ≤ length l.a.entries;
  is : filled_on l.out (with_kept_keys l.keep (reverse (take l.left l.a.entries))) ≡ array_reverse l.a l.keep;
}

abbrev pub decreases-loop-left : goal.decreases-loop-left
decreases-loop-left l = l.left
