-- No row before the index has the number.
use Rattle.std.proofs.Common.{◌≡◌, false, take}
use Rattle.resin_base.specs.TableStore.{has_number}
use Rattle.resin_base.proofs.row_place.row_place.Given as goal

abbrev pub invariant-loop-i : goal.invariant-loop-i
invariant-loop-i l = has_number (take l.i l.rows) l.number ≡ false
