-- The runs before the index stand behind.
use Rattle.std.proofs.Common.{◌≡◌, ◌++◌, take}
use Rattle.resin_shadow.specs.Runs.{marks_of}
use Rattle.resin_shadow.proofs.runs.FrozenRuns.append.Given as goal

abbrev pub invariant-loop-run : goal.invariant-loop-run
invariant-loop-run l = l.self ≡ l.initial.self ++ marks_of (take l.run-index l.run-items)
