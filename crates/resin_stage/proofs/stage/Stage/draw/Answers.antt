use Rattle.resin_stage.proofs.Laws.{lawful_drawn, open_drawn}
use Rattle.resin_stage.proofs.stage.Stage.draw.Goals as goal

pub invariant_of-self : goal.invariant_of-self
invariant_of-self c = lawful_drawn _ _ c.self.invariant

pub returns-clause-begun : goal.returns-clause-begun
returns-clause-begun c = open_drawn _ _ c.self.invariant
