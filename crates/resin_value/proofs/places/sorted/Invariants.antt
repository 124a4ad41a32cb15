use Rattle.std.proofs.Common.{take}
use Rattle.resin_value.specs.Placed.{IsNumbered}
use Rattle.resin_value.specs.Seen.{keys_of}
use Rattle.resin_value.proofs.places.sorted.Given as goal

abbrev pub invariant-loop-i : goal.invariant-loop-i
invariant-loop-i l = IsNumbered l.first l.map (take l.i (keys_of l.list.items))
