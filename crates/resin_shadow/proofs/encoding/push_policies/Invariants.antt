-- The policies before the index are written.
use Rattle.std.proofs.Common.{◌≡◌, ◌++◌, take}
use Rattle.resin_shadow.specs.Printed.{policies_text}
use Rattle.resin_shadow.proofs.encoding.push_policies.Given as goal

abbrev pub invariant-loop-number : goal.invariant-loop-number
invariant-loop-number l = l.text ≡ l.initial.text ++ policies_text l.table.texts.keys (take l.number-index l.number-items)
