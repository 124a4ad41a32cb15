use Rattle.std.proofs.Common.{◌≡◌, ◌≤◌, length, take}
use Rattle.resin_eval_writes.proofs.HeaderLines.{without_back}
use Rattle.resin_eval_writes.proofs.headers.without_back.Given as goal

abbrev pub invariant-loop-to : goal.invariant-loop-to
invariant-loop-to l =
    record {
      within : l.to ≤ length l.value;
      same : without_back (take l.to l.value) ≡ without_back l.value;
    }

abbrev pub decreases-loop-to : goal.decreases-loop-to
decreases-loop-to l = l.to
