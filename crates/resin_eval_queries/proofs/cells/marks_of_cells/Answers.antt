use Rattle.resin_eval_writes.proofs.eval_nested_lemmas.Exits.{does_is}
use Rattle.resin_eval_writes.proofs.meaning_lemmas.Composition.{does_exit, does_give, does_lost_exit, does_next, leads_here}
use Rattle.resin_eval_queries.proofs.RowLemmas.{marks_end, marks_step}
use Rattle.resin_eval_queries.proofs.cells.marks_of_cells.Goals as goal

pub loop-cell-init : goal.loop-cell-init
loop-cell-init c = λ f t k. rw c.new-all.ensures (leads_here _ _)

pub returns-in_err-marks : goal.returns-in_err-marks
returns-in_err-marks c =
    let step = marks_step c.args.cells.now c.loop-cell.cell-index c.cell-item.result c.loop-cell.all c.loop-cell-test.true c.cell-item.is in
    λ f t k. (c.loop-cell.invariant f t k).goes_on _ _ (does_is step (does_exit _ _ _ c.from_residual.ensures.1 (c.in_err-marks.ensures f t k)))

pub returns-in_err-put_marks : goal.returns-in_err-put_marks
returns-in_err-put_marks c =
    let step = marks_step c.args.cells.now c.loop-cell.cell-index c.cell-item.result c.loop-cell.all c.loop-cell-test.true c.cell-item.is in
    λ f t k. (c.loop-cell.invariant f t k).goes_on _ _ (does_is step (does_lost_exit _ _ _ c.from_residual-in_err-put_marks.ensures.1 (c.in_ok-marks.ensures f t k)))

pub loop-cell-preserved : goal.loop-cell-preserved
loop-cell-preserved c =
    let step = marks_step c.args.cells.now c.loop-cell.cell-index c.cell-item.result c.loop-cell.all c.loop-cell-test.true c.cell-item.is in
    λ f t k. record { goes_on = λ r w e. (c.loop-cell.invariant f t k).goes_on r w (does_is step (does_next _ _ (c.in_ok-marks.ensures f t k) (rw c.in_ok-put_marks.ensures at e))) }

pub returns : goal.returns
returns c =
    λ f t k. (c.loop-cell.invariant f t k).goes_on _ _ (does_is (marks_end c.args.cells.now c.loop-cell.cell-index c.loop-cell.all c.loop-cell-test.false) (does_give _ _))
