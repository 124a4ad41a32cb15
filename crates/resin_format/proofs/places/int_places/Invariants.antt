use Rattle.std.proofs.Common.{◌≡◌, ◌≤◌, ◌-◌, length, drop}
use Rattle.resin_format.specs.Directives.{directives, directives_from, is_integer_place}
use Rattle.resin_format.proofs.places.int_places.Given as goal

abbrev pub invariant-loop-found : goal.invariant-loop-found
invariant-loop-found l = record {
  is : is_integer_place (directives_from 0 (drop l.at l.format)) l.left ≡ is_integer_place (directives l.format) l.i;
  within : l.at ≤ length l.format;
}

abbrev pub decreases-loop-found : goal.decreases-loop-found
decreases-loop-found l = length l.format - l.at
