use Rattle.std.proofs.Common.{◌≡◌, take}
use Rattle.resin_lstr.proofs.runs.list_of_sets.Given as goal

abbrev pub invariant-loop-set : goal.invariant-loop-set
invariant-loop-set l = l.list ≡ take l.set-index l.sets
