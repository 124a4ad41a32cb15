-- The sets before the index are written.
use Rattle.std.proofs.Common.{◌≡◌, ◌++◌, take}
use Rattle.std.specs.List.{flat_map}
use Rattle.resin_shadow.specs.Printed.{set_text}
use Rattle.resin_shadow.proofs.encoding.push_sets.Given as goal

abbrev pub invariant-loop-kind : goal.invariant-loop-kind
invariant-loop-kind l = l.text ≡ l.initial.text ++ flat_map (set_text l.table.sets.keys l.texts.keys) (take l.kind-index l.kind-items)
