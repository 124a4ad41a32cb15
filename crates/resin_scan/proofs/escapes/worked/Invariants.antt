use Rattle.std.proofs.Common.{◌≡◌, ◌≤◌, ◌-◌, ◌++◌, drop, length}
use Rattle.resin_scan.specs.Escapes.{worked}
use Rattle.resin_scan.proofs.escapes.worked.Given as goal

abbrev pub invariant-loop-i : goal.invariant-loop-i
invariant-loop-i l = (l.i ≤ length l.s) × (l.out.items ++ worked l.quoting (drop l.i l.s) ≡ worked l.quoting l.s)

abbrev pub decreases-loop-i : goal.decreases-loop-i
decreases-loop-i l = length l.s - l.i
