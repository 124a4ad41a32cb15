-- The columns before the index are copied.
use Rattle.std.proofs.Common.{◌≡◌, take}
use Rattle.resin_memory.proofs.copies.copy_columns.Given as goal

abbrev pub invariant-loop-column : goal.invariant-loop-column
invariant-loop-column l = l.copy ≡ take l.column-index l.column-items
