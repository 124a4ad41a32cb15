use Rattle.std.proofs.Common.{◌≡◌, take}
use Rattle.resin_heap.specs.Prelude.{prelude}
use Rattle.resin_heap.proofs.table.ClassTable.new.Given as goal

abbrev pub invariant-loop-number : goal.invariant-loop-number
invariant-loop-number l = l.table ≡ take l.number prelude
