use Rattle.resin_step_parts.proofs.meaning_lemmas.Composition.{does_act, does_exit, does_give, does_next}
use Rattle.resin_step_keeping.proofs.thawing.make_policy.Goals as goal

pub returns-in_err-object : goal.returns-in_err-object
returns-in_err-object c = λ f u k. does_exit _ _ _ c.from_residual.ensures.1 (does_act _ f u k c.in_err-object.ensures.acts)

pub returns-in_err-set_fields : goal.returns-in_err-set_fields
returns-in_err-set_fields c =
    λ f u k. does_next _ _ (does_act _ f u k c.in_ok-object.ensures.acts) (does_exit _ _ _ c.from_residual-in_err-set_fields.ensures.1 (c.in_err-set_fields.ensures f u k))

pub returns : goal.returns
returns c =
    λ f u k. does_next _ _ (does_act _ f u k c.in_ok-object.ensures.acts) (does_next _ _ (c.in_ok-set_fields.ensures f u k) (does_give _ _))
