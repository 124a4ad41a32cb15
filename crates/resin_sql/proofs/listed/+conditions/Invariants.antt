use Rattle.std.proofs.Common.{◌≡◌, ◌++◌, take}
use Rattle.std.specs.List.{flat_map}
use Rattle.resin_sql.specs.Literals.{of_condition}
use Rattle.resin_sql.proofs.listed.+conditions.Given as goal

abbrev pub invariant-put_conditions-loop-part : goal.invariant-put_conditions-loop-part
invariant-put_conditions-loop-part l = l.found ≡ l.initial.found ++ flat_map of_condition (take l.part-index l.parts)
