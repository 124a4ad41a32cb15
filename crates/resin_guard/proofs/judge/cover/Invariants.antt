use Rattle.resin_guard.proofs.Firsts.{Noted}
use Rattle.resin_guard.proofs.judge.cover.Given as goal

abbrev pub invariant-loop-i : goal.invariant-loop-i
invariant-loop-i l = Noted l.initial.safe l.safe l.start l.i
