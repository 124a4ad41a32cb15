use Rattle.std.proofs.Common.{◌≡◌, ◌++◌, take}
use Rattle.std.specs.List.{flat_map}
use Rattle.resin_guard.specs.Literals.{of_literal}
use Rattle.resin_guard.proofs.literals.put_literals.Given as goal

abbrev pub invariant-loop-literal : goal.invariant-loop-literal
invariant-loop-literal l = l.places ≡ l.initial.places ++ flat_map of_literal (take l.literal-index l.literals)
