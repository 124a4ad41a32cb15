use Rattle.resin_step_functions.proofs.meaning_lemmas.Composition.{does_act, does_exit, does_next}
use Rattle.resin_step_objects.proofs.objects.set_property.Goals as goal

pub returns-in_err-v-clause-does : goal.returns-in_err-v-clause-does
returns-in_err-v-clause-does c =
    λ f t k. does_exit _ _ _ c.from_residual.ensures.1 (c.in_err-v.ensures.does f t k)

pub returns-clause-does : goal.returns-clause-does
returns-clause-does c =
    λ f t k. does_next _ _ (c.in_ok-v.ensures.does f t k) (does_act _ f t k (rw c.as_slice.ensures at c.set_field.ensures.acts))
