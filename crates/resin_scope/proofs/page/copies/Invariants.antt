-- The texts before the index are copied.
use Rattle.std.proofs.Common.{◌≡◌, take}
use Rattle.resin_scope.proofs.page.copies.Given as goal

abbrev pub invariant-loop-t : goal.invariant-loop-t
invariant-loop-t l = l.list ≡ take l.t-index l.texts
