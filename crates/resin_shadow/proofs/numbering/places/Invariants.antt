-- The places so far, and those that are left.
use Rattle.std.proofs.Common.{◌≡◌, ◌++◌}
use Rattle.resin_shadow.specs.Printed.{rising}
use Rattle.resin_shadow.proofs.numbering.places.Given as goal

abbrev pub invariant-loop-place : goal.invariant-loop-place
invariant-loop-place l = l.places.items ++ l.place-iterator ≡ rising l.met.keys l.numbers
