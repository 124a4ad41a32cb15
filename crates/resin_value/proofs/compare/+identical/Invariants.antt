use Rattle.std.proofs.Common.{◌≡◌, drop}
use Rattle.resin_value.specs.Arrays.{row_of}
use Rattle.resin_value.specs.Compare.{identical_rows}
use Rattle.resin_value.proofs.compare.+identical.Given as goal

abbrev pub invariant-identical_entries-loop-i : goal.invariant-identical_entries-loop-i
invariant-identical_entries-loop-i l = identical_rows (row_of l.x) (row_of l.y) l.fn.t.left ≡ identical_rows (row_of (drop l.i l.x)) (row_of (drop l.i l.y)) l.t.left
