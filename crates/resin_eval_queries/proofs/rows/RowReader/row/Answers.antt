use Rattle.std.proofs.Common.{arith}
use Rattle.resin_eval_writes.specs.Under.meaning_forms.Programs.{evals}
use Rattle.resin_eval_writes.proofs.eval_nested_lemmas.Exits.{does_is}
use Rattle.resin_eval_writes.proofs.meaning_lemmas.Composition.{does_exit, does_give, does_next, does_unbegun_exit, leads_here}
use Rattle.resin_eval_queries.proofs.RowLemmas.{ended_at, row_end, row_lost, row_step, same_cell}
use Rattle.resin_eval_queries.proofs.rows.RowReader.row.Goals as goal

pub returns-in_err-row : goal.returns-in_err-row
returns-in_err-row g c = row_lost (evals c.args.self.now.by.now.room) c.args.columns.now c.args.cells.now _ _ c.from_residual.ensures.1

pub loop-i-init : goal.loop-i-init
loop-i-init g c = rw c.in_ok-row.ensures (leads_here _ _)

pub returns-in_err-row-2 : goal.returns-in_err-row-2
returns-in_err-row-2 g c =
    c.loop-i.invariant.goes_on _ _ (does_is (row_step (evals c.args.self.now.by.now.room) c.args.columns.now c.args.cells.now c.loop-i.i c.index-columns-i.result c.index-cells-i.result c.loop-i.row (omega (arith, c.least-i-end.ensures, c.loop-i-test.true)) (omega (arith, c.least-i-end.ensures, c.loop-i-test.true)) c.index-columns-i.is c.index-cells-i.is) (does_exit _ _ _ c.from_residual-in_err-row-2.ensures.1 (does_is (same_cell (evals c.args.self.now.by.now.room) c.index-cells-i.result c.loop-i.row c.as_slice.ensures) c.in_err-row-2.ensures)))

pub loop-i-preserved : goal.loop-i-preserved
loop-i-preserved g c =
    record { goes_on = λ r w e. c.loop-i.invariant.goes_on r w (does_is (row_step (evals c.args.self.now.by.now.room) c.args.columns.now c.args.cells.now c.loop-i.i c.index-columns-i.result c.index-cells-i.result c.loop-i.row (omega (arith, c.least-i-end.ensures, c.loop-i-test.true)) (omega (arith, c.least-i-end.ensures, c.loop-i-test.true)) c.index-columns-i.is c.index-cells-i.is) (does_next _ _ (does_is (same_cell (evals c.args.self.now.by.now.room) c.index-cells-i.result c.loop-i.row c.as_slice.ensures) c.in_ok-row-2.ensures) e)) }

pub returns : goal.returns
returns g c =
    c.loop-i.invariant.goes_on _ _ (does_is (row_end (evals c.args.self.now.by.now.room) c.args.columns.now c.args.cells.now c.loop-i.i c.loop-i.row (ended_at _ _ _ (omega (arith, c.least-i-end.ensures, c.loop-i-test.false)))) (does_give _ _))
