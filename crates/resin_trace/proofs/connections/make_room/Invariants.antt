-- The places so far.
use Rattle.std.proofs.Common.{◌-◌, ◌+◌, vec_len, ℕ, ◌≡◌}
use Rattle.resin_trace.specs.Lines.{at}
use Rattle.resin_trace.proofs.connections.make_room.Given as goal

abbrev pub invariant-loop-slots : goal.invariant-loop-slots
invariant-loop-slots l = (c : ℕ) → at l.slots.items c ≡ at l.initial.slots.items c

abbrev pub decreases-loop-slots : goal.decreases-loop-slots
decreases-loop-slots l = (l.place + 1) - vec_len l.slots
