use Rattle.std.proofs.Common.{arith}
use Rattle.resin_eval_writes.specs.Under.meaning_forms.Programs.{evals}
use Rattle.resin_eval_writes.specs.Under.value.Changes.{empty}
use Rattle.resin_eval_queries.proofs.RowLemmas.{ended_at, items_done, items_exit, items_lost, items_next, items_start}
use Rattle.resin_eval_queries.proofs.totals.Totaller.items.Goals as goal

pub returns-in_err-row : goal.returns-in_err-row
returns-in_err-row g c = items_lost (evals c.args.self.now.by.now.room) c.args.chosen c.args.items.now c.args.rows.now empty _ c.from_residual.ensures.1

pub loop-i-init : goal.loop-i-init
loop-i-init g c = items_start (evals c.args.self.now.by.now.room) c.args.chosen c.args.items.now c.args.rows.now c.in_ok-row.row _ c.in_ok-row.ensures

pub returns-in_err-row-2 : goal.returns-in_err-row-2
returns-in_err-row-2 g c =
    c.loop-i.invariant.goes_on _ _
    (items_exit (evals c.args.self.now.by.now.room) c.args.chosen c.args.items.now c.args.rows.now c.loop-i.i c.index-items-i.result c.index-rows-i.result c.as_slice.result.now c.loop-i.row _ (omega (arith, c.least-i-end.ensures, c.loop-i-test.true)) (omega (arith, c.least-i-end.ensures, c.loop-i-test.true)) c.index-items-i.is c.index-rows-i.is c.as_slice.ensures c.from_residual-in_err-row-2.ensures.1 c.in_err-row-2.ensures)

pub loop-i-preserved : goal.loop-i-preserved
loop-i-preserved g c =
    record {
      goes_on = λ r w e. c.loop-i.invariant.goes_on r w
          (items_next (evals c.args.self.now.by.now.room) c.args.chosen c.args.items.now c.args.rows.now c.loop-i.i c.index-items-i.result c.index-rows-i.result c.as_slice.result.now c.loop-i.row c.in_ok-row-2.row (omega (arith, c.least-i-end.ensures, c.loop-i-test.true)) (omega (arith, c.least-i-end.ensures, c.loop-i-test.true)) c.index-items-i.is c.index-rows-i.is c.as_slice.ensures c.in_ok-row-2.ensures e);
    }

pub returns : goal.returns
returns g c =
    c.loop-i.invariant.goes_on _ _ (items_done (evals c.args.self.now.by.now.room) c.args.chosen c.args.items.now c.args.rows.now c.loop-i.i c.loop-i.row _ (ended_at _ _ _ (omega (arith, c.least-i-end.ensures, c.loop-i-test.false))))
