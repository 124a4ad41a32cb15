-- The numbers before the index are met.
use Rattle.std.proofs.Common.{◌≡◌, take}
use Rattle.std.specs.List.{fold}
use Rattle.resin_shadow.specs.Printed.{with_number}
use Rattle.resin_shadow.proofs.numbering.meet.Given as goal

abbrev pub invariant-loop-number : goal.invariant-loop-number
invariant-loop-number l = l.met.keys ≡ fold with_number l.initial.met.keys (take l.number-index l.number-items)
