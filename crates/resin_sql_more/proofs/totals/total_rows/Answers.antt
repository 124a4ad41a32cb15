use Rattle.std.proofs.Common.{sym, ap, ◌∙◌}
use Rattle.resin_plan.specs.Plans.{Done}
use Rattle.resin_sql_more.specs.Totals.{total_rows, total_end}
use Rattle.resin_sql_more.proofs.Runs.{cause_exit, cause_on, rows_exit, rows_on, comes, ends_same}
use Rattle.resin_sql_more.proofs.totals.total_rows.Goals as goal

pub returns-in-Some : goal.returns-in-Some
unfolding total_rows
returns-in-Some g c = cause_exit _ _ c.in-Some.cause (sym c.total_cause.ensures ∙ c.in-Some.is)

pub returns-in_err-rows : goal.returns-in_err-rows
unfolding total_rows
returns-in_err-rows g c =
    cause_on _ _ _ (sym c.total_cause.ensures ∙ c.in_default.is) (rows_exit _ _ _ _ c.from_residual.ensures.1 c.as_slice.ensures c.in_err-rows.ensures)

pub returns : goal.returns
unfolding total_rows
returns g c =
    cause_on _ _ _ (sym c.total_cause.ensures ∙ c.in_default.is)
    (rows_on _ _ _ c.in_ok-rows.rows _ c.as_slice.ensures c.in_ok-rows.ensures
    (ends_same (ap (λ rows. Done (total_end c.args.statement.now c.args.values.now c.args.left c.args.columns.now rows)) (sym c.as_slice-2.ensures)) (comes _ _ c.total_end.ensures)))
