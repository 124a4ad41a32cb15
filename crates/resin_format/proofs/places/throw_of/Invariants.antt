use Rattle.std.proofs.Common.{◌≡◌, ◌≤◌, ◌-◌, length, drop}
use Rattle.resin_format.specs.Directives.{directives, directives_from, thrown}
use Rattle.resin_format.proofs.places.throw_of.Given as goal

abbrev pub invariant-loop-found : goal.invariant-loop-found
invariant-loop-found l = record {
  is : thrown (directives_from 0 (drop l.at l.format)) l.left ≡ thrown (directives l.format) l.arguments;
  within : l.at ≤ length l.format;
}

abbrev pub decreases-loop-found : goal.decreases-loop-found
decreases-loop-found l = length l.format - l.at
