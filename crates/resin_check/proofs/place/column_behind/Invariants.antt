use Rattle.std.proofs.Common.{◌≡◌, ◌+◌, ◌≤◌, drop}
use Rattle.resin_check.specs.Places.{column_behind}
use Rattle.resin_check.proofs.place.column_behind.Given as goal

abbrev pub invariant-loop-byte : goal.invariant-loop-byte
invariant-loop-byte l = (column_behind l.column (drop l.byte-index l.front) ≡ column_behind 1 l.front) × (l.column ≤ l.byte-index + 1)
