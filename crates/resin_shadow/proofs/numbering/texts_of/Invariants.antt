-- The texts of the sets before the index are met.
use Rattle.std.proofs.Common.{◌≡◌, take}
use Rattle.resin_shadow.specs.Printed.{texts_met}
use Rattle.resin_shadow.proofs.numbering.texts_of.Given as goal

abbrev pub invariant-loop-kind : goal.invariant-loop-kind
invariant-loop-kind l = l.met.keys ≡ texts_met l.table.sets.keys (take l.kind-index l.kind-items)
