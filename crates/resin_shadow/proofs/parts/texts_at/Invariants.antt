use Rattle.std.proofs.Common.{◌≡◌, take}
use Rattle.resin_shadow.specs.Parts.{texts_at}
use Rattle.resin_shadow.proofs.parts.texts_at.Given as goal

abbrev pub invariant-loop-number : goal.invariant-loop-number
invariant-loop-number l = l.texts ≡ texts_at l.table.texts.keys (take l.number-index l.numbers)
