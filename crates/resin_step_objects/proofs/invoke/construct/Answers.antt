use Rattle.resin_step_functions.proofs.meaning_lemmas.Composition.{does_act, does_exit, does_give, does_next}
use Rattle.resin_step_objects.proofs.invoke.construct.Goals as goal

pub returns-in_err-message : goal.returns-in_err-message
returns-in_err-message c =
    λ f t k. does_exit _ _ _ c.from_residual.ensures.1 (does_act _ f t k c.in_err-message.ensures.acts)

pub returns-in_err-code : goal.returns-in_err-code
returns-in_err-code c =
    λ f t k. does_next _ _ (does_act _ f t k c.in_ok-message.ensures.acts) (does_exit _ _ _ c.from_residual-in_err-code.ensures.1 (does_act _ f t k c.in_err-code.ensures.acts))

pub returns-in_err-set_field : goal.returns-in_err-set_field
returns-in_err-set_field c =
    λ f t k. does_next _ _ (does_act _ f t k c.in_ok-message.ensures.acts) (does_next _ _ (does_act _ f t k c.in_ok-code.ensures.acts) (does_exit _ _ _ c.from_residual-in_err-set_field.ensures.1 (does_act _ f t k c.in_err-set_field.ensures.acts)))

pub returns-in_err-set_field-2 : goal.returns-in_err-set_field-2
returns-in_err-set_field-2 c =
    λ f t k. does_next _ _ (does_act _ f t k c.in_ok-message.ensures.acts) (does_next _ _ (does_act _ f t k c.in_ok-code.ensures.acts) (does_next _ _ (does_act _ f t k c.in_ok-set_field.ensures.acts) (does_exit _ _ _ c.from_residual-in_err-set_field-2.ensures.1 (does_act _ f t k c.in_err-set_field-2.ensures.acts))))

pub returns : goal.returns
returns c =
    λ f t k. does_next _ _ (does_act _ f t k c.in_ok-message.ensures.acts) (does_next _ _ (does_act _ f t k c.in_ok-code.ensures.acts) (does_next _ _ (does_act _ f t k c.in_ok-set_field.ensures.acts) (does_next _ _ (does_act _ f t k c.in_ok-set_field-2.ensures.acts) (does_give _ _))))
