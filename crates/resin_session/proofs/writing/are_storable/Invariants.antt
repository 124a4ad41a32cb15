use Rattle.std.proofs.Common.{◌≡◌, true, take}
use Rattle.std.specs.List.{list_all}
use Rattle.resin_session.specs.Texts.{is_storable}
use Rattle.resin_session.proofs.writing.are_storable.Given as goal

abbrev pub invariant-loop-i : goal.invariant-loop-i
invariant-loop-i l = list_all (λ e. is_storable e.1) (take l.i l.array.entries) ≡ true
