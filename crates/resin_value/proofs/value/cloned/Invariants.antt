use Rattle.std.proofs.Common.{◌≡◌, take}
use Rattle.resin_value.proofs.value.cloned.Given as goal

abbrev pub invariant-loop-i : goal.invariant-loop-i
invariant-loop-i l = l.copies.items ≡ take l.i l.list.items
