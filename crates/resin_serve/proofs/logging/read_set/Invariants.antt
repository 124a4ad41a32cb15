-- The members so far are numbers of 32 bits.
use Rattle.std.proofs.Common.{take}
use Rattle.resin_audit.specs.Under.journal_file.Limits.{Each, IsObject}
use Rattle.resin_serve.proofs.logging.read_set.Given as goal

abbrev pub invariant-loop-number : goal.invariant-loop-number
invariant-loop-number l = Each IsObject (take l.number-index l.number-items)
