use Rattle.std.proofs.Common.{◌≡◌, take}
use Rattle.resin_heap.proofs.fields.ObjectFields.to_list.Given as goal

abbrev pub invariant-loop-i : goal.invariant-loop-i
invariant-loop-i l = l.list ≡ take l.i l.self
