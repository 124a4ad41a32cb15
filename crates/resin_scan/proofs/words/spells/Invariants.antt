use Rattle.std.proofs.Common.{◌≡◌, drop}
use Rattle.resin_scan.specs.Words.{spells}
use Rattle.resin_scan.proofs.words.spells.Given as goal

abbrev pub invariant-loop-i : goal.invariant-loop-i
invariant-loop-i l = spells (drop l.i l.word) (drop l.i l.s) ≡ spells l.word l.s
