use Rattle.std.proofs.Common.{◌≡◌, true, take}
use Rattle.std.specs.List.{list_all}
use Rattle.resin_frozen.specs.Policies.{is_field_key}
use Rattle.resin_frozen.proofs.freezing.are_names.Given as goal

abbrev pub invariant-loop-i : goal.invariant-loop-i
invariant-loop-i l = list_all (λ e. is_field_key e.0) (take l.i l.pairs.entries) ≡ true
