use Rattle.resin_eval_writes.proofs.meaning_lemmas.Composition.{does_next, does_exit, does_tried_as}
use Rattle.resin_eval_statements.proofs.Turns.{does_closing}
use Rattle.resin_eval_statements.proofs.forms.Statements.with_last.Goals as goal

pub returns-in_err-end : goal.returns-in_err-end
returns-in_err-end g c =
    does_exit _ _ _ c.from_residual.ensures.1 (does_tried_as _ _ _ c.in_err-end.ensures c.with_catches.ensures)

pub returns-in_err-course : goal.returns-in_err-course
returns-in_err-course g c =
    does_next _ _ (does_tried_as _ _ _ c.in_ok-end.ensures c.with_catches.ensures) (does_exit _ _ _ c.from_residual-in_err-course.ensures.1 (c.in_err-course.ensures))

pub returns : goal.returns
returns g c =
    does_next _ _ (does_tried_as _ _ _ c.in_ok-end.ensures c.with_catches.ensures) (does_next _ _ (c.in_ok-course.ensures) (does_closing _ _ c.closing.ensures))
