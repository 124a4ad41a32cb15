use Rattle.std.proofs.Common.{◌≡◌, ◌≤◌, ◌-◌, ◌++◌, length, drop}
use Rattle.resin_format.specs.Directives.{directives, directives_from}
use Rattle.resin_format.specs.Formats.{spelled}
use Rattle.resin_format.proofs.spelling.spell.Given as goal

abbrev pub invariant-loop-found : goal.invariant-loop-found
invariant-loop-found l = record {
  is : l.out ++ spelled (directives_from 0 (drop l.at l.f)) l.arguments ≡ spelled (directives l.f) l.args;
  within : l.at ≤ length l.f;
}

abbrev pub decreases-loop-found : goal.decreases-loop-found
decreases-loop-found l = length l.f - l.at
