use Rattle.std.proofs.Common.{◌≡◌, take}
use Rattle.resin_lstr.specs.Runs.{shifted}
use Rattle.resin_lstr.proofs.runs.shifted.Given as goal

abbrev pub invariant-loop-run : goal.invariant-loop-run
invariant-loop-run l = l.out.items ≡ shifted l.by (take l.run-index l.runs)
