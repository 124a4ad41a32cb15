use Rattle.resin_eval_nested.proofs.Arms.{does_given}
use Rattle.resin_step_objects.proofs.meaning_lemmas.Composition.{does_exit, does_next}
use Rattle.resin_eval_nested.proofs.nested.Evaluator.script_body.Goals as goal

pub returns-in_err-bind : goal.returns-in_err-bind
returns-in_err-bind g c =
    does_exit _ _ _ c.from_residual.ensures.1 ((rw (c.as_slice.ensures, c.get.ensures) at c.in_err-bind.ensures) _ _ _)

pub returns-in_err-course : goal.returns-in_err-course
returns-in_err-course g c =
    does_next _ _ ((rw (c.as_slice.ensures, c.get.ensures) at c.in_ok-bind.ensures) _ _ _) (does_exit _ _ _ c.from_residual-in_err-course.ensures.1 (rw (c.as_slice-2.ensures, c.get-2.ensures) at c.in_err-course.ensures))

pub returns : goal.returns
returns g c =
    does_next _ _ ((rw (c.as_slice.ensures, c.get.ensures) at c.in_ok-bind.ensures) _ _ _) (does_next _ _ (rw (c.as_slice-2.ensures, c.get-2.ensures) at c.in_ok-course.ensures) (does_given _ _ c.result_of.ensures))
