use Rattle.std.proofs.Common.{◌+◌, List, drop, sym, ap, ◌∙◌, arith}
use Rattle.resin_base.specs.declared.cell.Row.{Row}
use Rattle.resin_plan.specs.Plans.{here}
use Rattle.resin_plan.specs.Statements.{update_rows, one_more}
use Rattle.resin_plan.specs.TableCalls.{SetRow}
use Rattle.resin_plan.proofs.Lists.{front, nothing_left}
use Rattle.resin_plan.proofs.Runs.{call_exit, ends_then, leads_on, leads_same, gives}
use Rattle.resin_plan.proofs.changes.update_rows.Goals as goal

pub loop-row-init : goal.loop-row-init
loop-row-init g c = (here, omega arith)

pub returns-in_err-held : goal.returns-in_err-held
returns-in_err-held g c =
    call_exit (SetRow c.args.table.now c.row-item.result.number c.row-item.result.cells) (λ was. update_rows c.args.scanned c.args.table.now (drop (c.loop-row.row-index + 1) c.args.rows.now) (one_more c.loop-row.count was)) _ c.from_residual.ensures.1
    (leads_same (ap (λ (rs : List Row). update_rows c.args.scanned c.args.table.now rs c.loop-row.count) (front c.args.rows.now c.loop-row.row-index c.row-item.result c.loop-row-test.true c.row-item.is)) c.loop-row.invariant.0)
    c.in_err-held.ensures

pub loop-row-preserved : goal.loop-row-preserved
loop-row-preserved g c = (
  leads_same (sym (ap (update_rows c.args.scanned c.args.table.now (drop (c.loop-row.row-index + 1) c.args.rows.now)) c.one_more-count.ensures.is))
      (leads_on (SetRow c.args.table.now c.row-item.result.number c.row-item.result.cells) (λ was. update_rows c.args.scanned c.args.table.now (drop (c.loop-row.row-index + 1) c.args.rows.now) (one_more c.loop-row.count was)) c.in_ok-held.held
      (leads_same (ap (λ (rs : List Row). update_rows c.args.scanned c.args.table.now rs c.loop-row.count) (front c.args.rows.now c.loop-row.row-index c.row-item.result c.loop-row-test.true c.row-item.is)) c.loop-row.invariant.0)
      c.in_ok-held.ensures),
  omega (arith, c.one_more-count.ensures.most, c.loop-row.invariant.1),
)

pub returns : goal.returns
returns g c =
    ends_then c.loop-row.invariant.0
    (gives c.counted.result (c.counted.ensures ∙ sym (ap (λ (rs : List Row). update_rows c.args.scanned c.args.table.now rs c.loop-row.count) (nothing_left c.args.rows.now c.loop-row.row-index c.loop-row-test.false))))
