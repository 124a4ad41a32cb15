use Rattle.resin_step_parts.proofs.meaning_lemmas.Composition.{does_act, does_exit, does_give, does_next, does_unbegun_exit}
use Rattle.resin_step_keeping.proofs.thawing.make_lost.Goals as goal

pub returns-in_err-of : goal.returns-in_err-of
returns-in_err-of c = λ f u k. does_unbegun_exit _ _ _ c.from_residual.ensures.1

pub returns-in_err-object : goal.returns-in_err-object
returns-in_err-object c =
    λ f u k. does_exit _ _ _ c.from_residual-in_err-object.ensures.1 (does_act _ f u k (rw c.number.ensures at c.in_err-object.ensures.acts))

pub returns-in_err-set_field : goal.returns-in_err-set_field
returns-in_err-set_field c =
    λ f u k. does_next _ _ (does_act _ f u k (rw c.number.ensures at c.in_ok-object.ensures.acts))
    (does_exit _ _ _ c.from_residual-in_err-set_field.ensures.1 (does_act _ f u k (rw c.in_ok-of.ensures at c.in_err-set_field.ensures.acts)))

pub returns-in_err-set_field-2 : goal.returns-in_err-set_field-2
returns-in_err-set_field-2 c =
    λ f u k. does_next _ _ (does_act _ f u k (rw c.number.ensures at c.in_ok-object.ensures.acts))
    (does_next _ _ (does_act _ f u k (rw c.in_ok-of.ensures at c.in_ok-set_field.ensures.acts))
    (does_exit _ _ _ c.from_residual-in_err-set_field-2.ensures.1 (does_act _ f u k c.in_err-set_field-2.ensures.acts)))

pub returns : goal.returns
returns c =
    λ f u k. does_next _ _ (does_act _ f u k (rw c.number.ensures at c.in_ok-object.ensures.acts))
    (does_next _ _ (does_act _ f u k (rw c.in_ok-of.ensures at c.in_ok-set_field.ensures.acts))
    (does_next _ _ (does_act _ f u k c.in_ok-set_field-2.ensures.acts) (does_give _ _)))
