use Rattle.std.proofs.Common.{◌∙◌}
use Rattle.resin_scope.proofs.StandingLemmas.{swept, standing_swept}
use Rattle.resin_scope.proofs.headers.Headers.make_room.Goals as goal

pub invariant_of-self-2 : goal.invariant_of-self-2
invariant_of-self-2 c = swept _ _ _ _ c.sweep.ensures c.self.invariant

pub returns : goal.returns
returns c = standing_swept _ _ _ c.sweep.ensures ∙ c.self.view_is
