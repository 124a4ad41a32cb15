use Rattle.std.proofs.Common.{◌≡◌, drop}
use Rattle.resin_value.specs.Arrays.{row_of}
use Rattle.resin_value.specs.Compare.{equal_rows}
use Rattle.resin_value.proofs.compare.+equal.Given as goal

abbrev pub invariant-equal_entries-loop-i : goal.invariant-equal_entries-loop-i
invariant-equal_entries-loop-i l = equal_rows (row_of l.x) l.y l.fn.t.left ≡ equal_rows (row_of (drop l.i l.x)) l.y l.t.left
