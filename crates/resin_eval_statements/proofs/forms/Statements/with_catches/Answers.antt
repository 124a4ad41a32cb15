use Rattle.resin_eval_writes.proofs.meaning_lemmas.Composition.{does_next, does_exit, does_give, does_tried_as}
use Rattle.resin_eval_statements.proofs.forms.Statements.with_catches.Goals as goal

pub returns-in_err-end : goal.returns-in_err-end
returns-in_err-end g c =
    does_exit _ _ _ c.from_residual.ensures.1 (does_tried_as _ _ _ c.in_err-end.ensures c.block.ensures)

pub returns-in-Ok : goal.returns-in-Ok
returns-in-Ok g c =
    does_next _ _ (does_tried_as _ _ _ (rw c.in-Ok.is at c.in_ok-end.ensures) c.block.ensures) (does_give _ _)

pub returns-in-Err : goal.returns-in-Err
returns-in-Err g c =
    does_next _ _ (does_tried_as _ _ _ (rw c.in-Err.is at c.in_ok-end.ensures) c.block.ensures) (c.catching.ensures)
