use Rattle.std.proofs.Common.{◌≡◌, map, take}
use Rattle.resin_shadow.specs.Printed.{rising}
use Rattle.resin_shadow.proofs.parts.sets_in.Given as goal

abbrev pub invariant-loop-numbers : goal.invariant-loop-numbers
invariant-loop-numbers l = map (λ s. s.items) l.sets.items ≡ map (rising l.met.keys) (take l.numbers-index l.numbers-items)
