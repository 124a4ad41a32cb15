use Rattle.std.proofs.Common.{◌≡◌, ◌<◌, length}
use Rattle.resin_heap.specs.Classes.{is_a}
use Rattle.resin_heap.proofs.classes.Classes.is_a.Given as goal

abbrev pub invariant-loop-at : goal.invariant-loop-at
invariant-loop-at l = (is_a l.self l.c l.other ≡ is_a l.self l.at l.other) × (l.at < length l.self)

abbrev pub decreases-loop-at : goal.decreases-loop-at
decreases-loop-at l = l.at
