use Rattle.std.proofs.Common.{◌≡◌, ◌<◌, drop, Some}
use Rattle.resin_scan.specs.Numbers.{value_on}
use Rattle.resin_scan.proofs.numbers.value.Given as goal

abbrev pub invariant-loop-d : goal.invariant-loop-d
invariant-loop-d l = (value_on l.base l.limit (Some l.n) (drop l.d-index l.s) ≡ value_on l.base l.limit (Some 0) l.s) × (l.n < l.limit)
