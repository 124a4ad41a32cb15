use Rattle.resin_step_parts.proofs.Answered.{does_computed}
use Rattle.resin_step_parts.proofs.values.continued.Goals as goal

pub returns : goal.returns
returns c =
    λ f t k. does_computed _ _ c.longer-both.ensures c.settle.ensures.acts f t k
