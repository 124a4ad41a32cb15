-- No entry before the index is at the key.
use Rattle.std.proofs.Common.{◌≡◌, None, take}
use Rattle.std.specs.FinMap.{find}
use Rattle.resin_base.specs.Contents.{byte_order}
use Rattle.resin_memory.proofs.places.place_of.Given as goal

abbrev pub invariant-loop-i : goal.invariant-loop-i
invariant-loop-i g l = find byte_order l.key (take l.i l.entries) ≡ None
