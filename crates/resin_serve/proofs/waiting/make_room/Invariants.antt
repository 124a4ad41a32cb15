-- The marks so far.
use Rattle.std.proofs.Common.{◌-◌, ◌+◌, vec_len, ℕ, ◌≡◌}
use Rattle.resin_serve.specs.Waiting_streams.{mark_at}
use Rattle.resin_serve.proofs.waiting.make_room.Given as goal

abbrev pub invariant-loop-marks : goal.invariant-loop-marks
invariant-loop-marks l = (c : ℕ) → mark_at l.marks.items c ≡ mark_at l.initial.marks.items c

abbrev pub decreases-loop-marks : goal.decreases-loop-marks
decreases-loop-marks l = (l.place + 1) - vec_len l.marks
