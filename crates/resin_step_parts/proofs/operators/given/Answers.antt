use Rattle.resin_meaning_forms.specs.Under.value.Values.{value_of-tree_of}
use Rattle.resin_meaning_forms.proofs.meaning_lemmas.Composition.{does_act, does_next, does_exit}
use Rattle.resin_step_parts.proofs.Answered.{does_give_as}
use Rattle.resin_step_parts.proofs.operators.given.Goals as goal

pub returns-in_err-charge_one : goal.returns-in_err-charge_one
returns-in_err-charge_one c = λ f t k. does_exit _ _ _ c.from_residual.ensures.1 (does_act _ f t k c.in_err-charge_one.ensures.acts)

pub returns : goal.returns
returns c = λ f t k. does_next _ _ (does_act _ f t k c.in_ok-charge_one.ensures.acts) (does_give_as _ _ _ (value_of-tree_of c.args.v))
