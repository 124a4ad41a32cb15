use Rattle.std.proofs.Common.{◌≡◌, ◌≤◌, ◌-◌, ◌++◌, length, drop}
use Rattle.resin_format.specs.Directives.{directives, directives_from, kinds}
use Rattle.resin_format.proofs.places.argument_kinds.Given as goal

abbrev pub invariant-loop-found : goal.invariant-loop-found
invariant-loop-found l = record {
  is : l.list ++ kinds (directives_from 0 (drop l.at l.format)) ≡ kinds (directives l.format);
  within : l.at ≤ length l.format;
}

abbrev pub decreases-loop-found : goal.decreases-loop-found
decreases-loop-found l = length l.format - l.at
