use Rattle.std.proofs.Common.{◌≡◌, take}
use Rattle.resin_lstr.proofs.kept_runs.copies.Given as goal

abbrev pub invariant-loop-run : goal.invariant-loop-run
invariant-loop-run l = l.out.items ≡ take l.run-index l.runs
