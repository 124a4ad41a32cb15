use Rattle.std.proofs.Common.{take, drop, sym, ap, ◌∙◌, arith}
use Rattle.resin_sql.specs.declared.fault.SqlRefusal.TheVariants.{Full}
use Rattle.resin_plan.specs.Plans.{here}
use Rattle.resin_plan.specs.Rows.{inserted}
use Rattle.resin_plan.specs.Statements.{insert_rows}
use Rattle.resin_plan.specs.TableCalls.{AddRow}
use Rattle.resin_plan.proofs.Lists.{nothing_left}
use Rattle.resin_plan.proofs.Runs.{wanting_exit, call_exit, ends_then, leads_on, leads_same, gives, refuses}
use Rattle.resin_plan.proofs.Turns.{insert_turn, added_none, added_some}
use Rattle.resin_plan.proofs.inserts.insert_rows.Goals as goal

pub returns-in_err-blank : goal.returns-in_err-blank
returns-in_err-blank g c = wanting_exit _ c.from_residual.ensures.1 here

pub loop-row-init : goal.loop-row-init
loop-row-init g c = (here, omega arith)

pub returns-in_err-cells : goal.returns-in_err-cells
returns-in_err-cells g c = wanting_exit _ c.from_residual-in_err-cells.ensures.1 c.loop-row.invariant.0

pub returns-in_err-insert_row : goal.returns-in_err-insert_row
returns-in_err-insert_row g c =
    call_exit (AddRow c.args.table.now c.in_ok-cells.cells) _ _ c.from_residual-in_err-insert_row.ensures.1
    (insert_turn c.args.table.now c.args.columns.now c.args.names.now c.args.rows.now c.loop-row.row-index c.row-item.result c.loop-row.left.now c.split.result.0.now c.split.result.1.now c.as_slice.result.now c.in_ok-cells.cells c.loop-row.count
    c.loop-row-test.true c.row-item.is (c.split.ensures.own ∙ ap (λ n. take n c.loop-row.left.now) c.len.ensures) (c.split.ensures.others ∙ ap (λ n. drop n c.loop-row.left.now) c.len.ensures)
    (c.as_slice.ensures ∙ c.in_ok-blank.ensures) c.in_ok-cells.ensures c.loop-row.invariant.0)
    c.in_err-insert_row.ensures

pub returns-then-is_none : goal.returns-then-is_none
returns-then-is_none g c =
    ends_then
    (leads_on (AddRow c.args.table.now c.in_ok-cells.cells) _ c.in_ok-insert_row.field-0
    (insert_turn c.args.table.now c.args.columns.now c.args.names.now c.args.rows.now c.loop-row.row-index c.row-item.result c.loop-row.left.now c.split.result.0.now c.split.result.1.now c.as_slice.result.now c.in_ok-cells.cells c.loop-row.count
    c.loop-row-test.true c.row-item.is (c.split.ensures.own ∙ ap (λ n. take n c.loop-row.left.now) c.len.ensures) (c.split.ensures.others ∙ ap (λ n. drop n c.loop-row.left.now) c.len.ensures)
    (c.as_slice.ensures ∙ c.in_ok-blank.ensures) c.in_ok-cells.ensures c.loop-row.invariant.0)
    c.in_ok-insert_row.ensures)
    (refuses Full (added_none _ c.in_ok-insert_row.field-0 c.is_none.result c.is_none.ensures c.if-is_none.true))

pub loop-row-preserved : goal.loop-row-preserved
loop-row-preserved g c = (
  leads_same (added_some _ c.in_ok-insert_row.field-0 c.is_none.result c.is_none.ensures c.if-is_none.false)
      (leads_on (AddRow c.args.table.now c.in_ok-cells.cells) _ c.in_ok-insert_row.field-0
      (insert_turn c.args.table.now c.args.columns.now c.args.names.now c.args.rows.now c.loop-row.row-index c.row-item.result c.loop-row.left.now c.split.result.0.now c.split.result.1.now c.as_slice.result.now c.in_ok-cells.cells c.loop-row.count
      c.loop-row-test.true c.row-item.is (c.split.ensures.own ∙ ap (λ n. take n c.loop-row.left.now) c.len.ensures) (c.split.ensures.others ∙ ap (λ n. drop n c.loop-row.left.now) c.len.ensures)
      (c.as_slice.ensures ∙ c.in_ok-blank.ensures) c.in_ok-cells.ensures c.loop-row.invariant.0)
      c.in_ok-insert_row.ensures),
  omega (arith, c.loop-row.invariant.1),
)

pub returns : goal.returns
returns g c =
    ends_then c.loop-row.invariant.0
    (gives c.counted.result (c.counted.ensures ∙ sym (ap (λ rs. insert_rows c.args.table.now (inserted c.args.columns.now c.args.names.now rs c.loop-row.left.now) c.loop-row.count) (nothing_left c.args.rows.now c.loop-row.row-index c.loop-row-test.false))))
