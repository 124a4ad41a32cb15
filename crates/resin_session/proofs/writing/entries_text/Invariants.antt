use Rattle.std.proofs.Common.{take}
use Rattle.resin_session.proofs.Written.{SoFar}
use Rattle.resin_session.proofs.writing.entries_text.Given as goal

abbrev pub invariant-loop-i : goal.invariant-loop-i
invariant-loop-i l = SoFar (take l.i l.array.entries) l.out
