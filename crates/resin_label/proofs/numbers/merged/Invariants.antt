use Rattle.std.proofs.Common.{◌≡◌, ◌≤◌, ◌+◌, ◌-◌, ◌++◌, length, drop}
use Rattle.resin_label.specs.Kept.{merge}
use Rattle.resin_label.proofs.numbers.merged.Given as goal

abbrev pub invariant-both : goal.invariant-both
invariant-both l = record {
  in_xs : l.i ≤ length l.xs;
  in_ys : l.j ≤ length l.ys;
  so_far : l.out.items ++ merge (drop l.i l.xs) (drop l.j l.ys) ≡ merge l.xs l.ys;
}

abbrev pub decreases-both : goal.decreases-both
decreases-both l = (length l.xs - l.i) + (length l.ys - l.j)
