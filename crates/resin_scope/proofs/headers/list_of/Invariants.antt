-- The headers of the slots so far.
use Rattle.std.proofs.Common.{◌≡◌, map}
use Rattle.resin_scope.proofs.headers.list_of.Given as goal

abbrev pub invariant-loop-slot : goal.invariant-loop-slot
invariant-loop-slot l = l.list ≡ map (λ s. s.header) l.yielded
