use Rattle.resin_step_parts.proofs.meaning_lemmas.Composition.{does_loosely}
use Rattle.resin_step_functions.proofs.functions.miscounted.Goals as goal

pub returns : goal.returns
returns g c =
    λ f t k. does_loosely _ f t k c.throw.ensures.acts
