use Rattle.std.proofs.Common.{◌≡◌}
use Rattle.resin_heap.specs.Branches.{found_at}
use Rattle.resin_heap.proofs.branches.Branches.get.Given as goal

abbrev pub invariant-loop-place : goal.invariant-loop-place
invariant-loop-place l = found_at l.self l.initial.tree l.initial.place ≡ found_at l.self l.tree l.place

abbrev pub decreases-loop-place : goal.decreases-loop-place
decreases-loop-place l = l.place
