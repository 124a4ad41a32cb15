use Rattle.resin_step_objects.proofs.Found.{does_value, settle_keeps}
use Rattle.resin_step_functions.proofs.step_parts_lemmas.Steps.{does_computed_tree}
use Rattle.resin_step_objects.proofs.constants.constant_value.Goals as goal

pub returns-clause-does : goal.returns-clause-does
returns-clause-does c =
    λ f t k. does_value _ _ (does_computed_tree _ _ c.constant.ensures c.settle.ensures.acts f t k)

pub returns-clause-kept : goal.returns-clause-kept
returns-clause-kept c =
    settle_keeps _ _ _ _ c.settle.ensures.acts
