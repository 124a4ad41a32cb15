use Rattle.resin_step_objects.proofs.meaning_lemmas.Composition.{does_act, does_exit, does_next}
use Rattle.resin_eval_nested.proofs.nested.Evaluator.call_object.Goals as goal

pub returns-in_err-class : goal.returns-in_err-class
returns-in_err-class g c =
    does_exit _ _ _ c.from_residual.ensures.1 (does_act _ _ _ _ c.in_err-class.ensures.acts)

pub returns-in_err-found : goal.returns-in_err-found
returns-in_err-found g c =
    does_next _ _ (does_act _ _ _ _ c.in_ok-class.ensures.acts) (does_exit _ _ _ c.from_residual-in_err-found.ensures.1 ((c.in_err-found.ensures) _ _ _))

pub returns : goal.returns
returns g c =
    does_next _ _ (does_act _ _ _ _ c.in_ok-class.ensures.acts) (does_next _ _ ((c.in_ok-found.ensures) _ _ _) (c.run_method.ensures))
