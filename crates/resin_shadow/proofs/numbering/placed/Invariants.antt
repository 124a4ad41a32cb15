-- The places of the numbers before the index are in the set.
use Rattle.std.proofs.Common.{◌≡◌, take}
use Rattle.resin_shadow.specs.Printed.{rising}
use Rattle.resin_shadow.proofs.numbering.placed.Given as goal

abbrev pub invariant-loop-number : goal.invariant-loop-number
invariant-loop-number l = l.set.keys ≡ rising l.met.keys (take l.number-index l.number-items)
