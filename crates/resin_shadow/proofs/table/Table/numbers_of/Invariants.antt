-- The texts before the index have these numbers.
use Rattle.std.proofs.Common.{take}
use Rattle.resin_shadow.specs.Runs.{IsTable, AreTextsAt, Stays}
use Rattle.resin_shadow.proofs.table.Table.numbers_of.Given as goal

abbrev pub invariant-loop-text : goal.invariant-loop-text
invariant-loop-text l = record { table : IsTable l.self; stays : Stays l.fn.self l.self; numbers : AreTextsAt l.self.texts.keys l.numbers (take l.text-index l.text-items) }
