use Rattle.resin_meaning_forms.proofs.meaning_lemmas.Composition.{does_act, does_next, does_exit}
use Rattle.resin_step_parts.proofs.operators.charge_two.Goals as goal

pub returns-in_err-charge_one : goal.returns-in_err-charge_one
returns-in_err-charge_one c = λ f t k. does_exit _ _ _ c.from_residual.ensures.1 (does_act _ f t k c.in_err-charge_one.ensures.acts)

pub returns : goal.returns
returns c = λ f t k. does_next _ _ (does_act _ f t k c.in_ok-charge_one.ensures.acts) (does_act _ f t k c.charge_one-2.ensures.acts)
