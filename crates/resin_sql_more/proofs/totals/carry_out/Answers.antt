use Rattle.std.proofs.Common.{sym, ap, ◌∙◌}
use Rattle.resin_sql.specs.declared.fault.SqlRefusal.TheVariants.{NoTable}
use Rattle.resin_plan.specs.Plans.{here}
use Rattle.resin_sql_more.specs.Totals.{total_plan, total_on, total_rows}
use Rattle.resin_sql_more.proofs.Runs.{ends_same, refuses, columns_exit, columns_on, wanting_exit}
use Rattle.resin_sql_more.proofs.totals.carry_out.Goals as goal

pub returns-in_err-kept : goal.returns-in_err-kept
unfolding total_plan
returns-in_err-kept g c = columns_exit _ _ _ _ c.from_residual.ensures.1 c.as_slice.ensures c.in_err-kept.ensures

pub returns-in_err-columns : goal.returns-in_err-columns
unfolding total_plan
returns-in_err-columns g c =
    columns_on _ _ _ c.in_ok-kept.kept _ c.as_slice.ensures c.in_ok-kept.ensures (wanting_exit _ c.from_residual-in_err-columns.ensures.1 here)

pub returns-in-Some : goal.returns-in-Some
unfolding total_plan
returns-in-Some g c =
    columns_on _ _ _ c.in_ok-kept.kept _ c.as_slice.ensures c.in_ok-kept.ensures
    (ends_same
    (ap (total_on c.args.statement.now c.args.values.now c.args.left) (sym c.in_ok-columns.ensures ∙ c.in-Some.is) ∙ ap (total_rows c.args.statement.now c.args.values.now c.args.left) (sym c.as_slice-in-Some.ensures))
    c.total_rows.ensures)

pub returns-in-None : goal.returns-in-None
unfolding total_plan
returns-in-None g c =
    columns_on _ _ _ c.in_ok-kept.kept _ c.as_slice.ensures c.in_ok-kept.ensures
    (refuses NoTable (ap (total_on c.args.statement.now c.args.values.now c.args.left) (sym c.in_ok-columns.ensures ∙ c.in-None.is)))
