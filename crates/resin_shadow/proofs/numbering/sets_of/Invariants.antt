-- The sets of the runs before the index are met.
use Rattle.std.proofs.Common.{◌≡◌, take}
use Rattle.resin_shadow.specs.Printed.{sets_met}
use Rattle.resin_shadow.proofs.numbering.sets_of.Given as goal

abbrev pub invariant-loop-run : goal.invariant-loop-run
invariant-loop-run l = l.met.keys ≡ sets_met (take l.run-index l.table.runs.items)
