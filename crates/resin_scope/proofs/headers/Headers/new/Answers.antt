use Rattle.resin_scope.proofs.StandingLemmas.{counted_new}
use Rattle.resin_scope.proofs.headers.Headers.new.Goals as goal

pub invariant_of-result : goal.invariant_of-result
invariant_of-result c = counted_new _ _ c.new-2.ensures c.new.ensures.items
