use Rattle.resin_eval_writes.specs.Under.meaning_forms.Programs.{evals}
use Rattle.resin_eval_writes.proofs.eval_nested_lemmas.Exits.{does_is}
use Rattle.resin_eval_writes.proofs.meaning_lemmas.Composition.{does_exit, does_give, does_next, leads_here}
use Rattle.resin_eval_queries.proofs.RowLemmas.{rows_end, rows_lost, rows_step, same_row}
use Rattle.resin_eval_queries.proofs.rows.RowReader.list.Goals as goal

pub returns-in_err-list : goal.returns-in_err-list
returns-in_err-list g c = rows_lost (evals c.args.self.now.by.now.room) c.args.columns.now c.args.rows.now _ _ c.from_residual.ensures.1

pub loop-cells-init : goal.loop-cells-init
loop-cells-init g c = rw c.in_ok-list.ensures (leads_here _ _)

pub returns-in_err-row : goal.returns-in_err-row
returns-in_err-row g c =
    let step = rows_step (evals c.args.self.now.by.now.room) c.args.columns.now c.args.rows.now c.loop-cells.cells-index c.cells-item.result c.loop-cells.list c.loop-cells-test.true c.cells-item.is in
    c.loop-cells.invariant.goes_on _ _ (does_is step (does_exit _ _ _ c.from_residual-in_err-row.ensures.1 (does_is (same_row (evals c.args.self.now.by.now.room) c.args.columns.now _ _ c.as_slice.ensures) c.in_err-row.ensures)))

pub returns-in_err-list-2 : goal.returns-in_err-list-2
returns-in_err-list-2 g c =
    let step = rows_step (evals c.args.self.now.by.now.room) c.args.columns.now c.args.rows.now c.loop-cells.cells-index c.cells-item.result c.loop-cells.list c.loop-cells-test.true c.cells-item.is in
    c.loop-cells.invariant.goes_on _ _ (does_is step (does_next _ _ (does_is (same_row (evals c.args.self.now.by.now.room) c.args.columns.now _ _ c.as_slice.ensures) c.in_ok-row.ensures) (does_exit _ _ _ c.from_residual-in_err-list-2.ensures.1 (c.in_err-list-2.ensures _ _ _))))

pub loop-cells-preserved : goal.loop-cells-preserved
loop-cells-preserved g c =
    let step = rows_step (evals c.args.self.now.by.now.room) c.args.columns.now c.args.rows.now c.loop-cells.cells-index c.cells-item.result c.loop-cells.list c.loop-cells-test.true c.cells-item.is in
    record { goes_on = λ r w e. c.loop-cells.invariant.goes_on r w (does_is step (does_next _ _ (does_is (same_row (evals c.args.self.now.by.now.room) c.args.columns.now _ _ c.as_slice.ensures) c.in_ok-row.ensures) (does_next _ _ (c.in_ok-list-2.ensures _ _ _) e))) }

pub returns : goal.returns
returns g c =
    c.loop-cells.invariant.goes_on _ _ (does_is (rows_end (evals c.args.self.now.by.now.room) c.args.columns.now c.args.rows.now c.loop-cells.cells-index c.loop-cells.list c.loop-cells-test.false) (does_give _ _))
