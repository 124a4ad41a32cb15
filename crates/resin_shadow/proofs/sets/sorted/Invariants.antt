-- The texts so far, and those that are left.
use Rattle.std.proofs.Common.{◌≡◌, ◌++◌}
use Rattle.resin_shadow.specs.Runs.{set_of}
use Rattle.resin_shadow.proofs.sets.sorted.Given as goal

abbrev pub invariant-loop-text : goal.invariant-loop-text
invariant-loop-text l = l.texts ++ l.text-iterator ≡ set_of l.list
