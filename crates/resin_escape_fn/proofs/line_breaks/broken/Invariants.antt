use Rattle.std.proofs.Common.{◌≡◌, ◌≤◌, ◌-◌, ◌++◌, drop}
use Rattle.resin_escape_fn.specs.LineBreaks.{with_breaks}
use Rattle.resin_escape_fn.proofs.line_breaks.broken.Given as goal

abbrev pub invariant-loop-skipped : goal.invariant-loop-skipped
invariant-loop-skipped l = record {
  is : l.out ++ with_breaks (drop l.from l.s) ≡ with_breaks l.s;
  within : l.from ≤ l.len;
}

abbrev pub decreases-loop-skipped : goal.decreases-loop-skipped
decreases-loop-skipped l = l.len - l.from
