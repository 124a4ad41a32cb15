use Rattle.std.proofs.Common.{◌≡◌, take}
use Rattle.resin_shadow.specs.Runs.{set_of}
use Rattle.resin_shadow.proofs.sets.collected.Given as goal

abbrev pub invariant-loop-text : goal.invariant-loop-text
invariant-loop-text l = l.set.keys ≡ set_of (take l.text-index l.text-items)
