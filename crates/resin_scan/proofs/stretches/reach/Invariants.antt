use Rattle.std.proofs.Common.{◌≡◌, ◌+◌, drop, false}
use Rattle.resin_scan.specs.Stretches.{reach}
use Rattle.resin_scan.proofs.stretches.reach.Given as goal

abbrev pub invariant-loop-i : goal.invariant-loop-i
invariant-loop-i l = l.i + reach l.stop l.escaped (drop l.i l.s) ≡ reach l.stop false l.s
