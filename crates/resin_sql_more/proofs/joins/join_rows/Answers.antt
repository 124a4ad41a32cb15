use Rattle.std.proofs.Common.{sym, ap, ◌∙◌, length}
use Rattle.resin_plan.specs.Plans.{Done, here}
use Rattle.resin_sql_more.specs.Joins.{join_rows, join_cause, join_end}
use Rattle.resin_sql_more.proofs.Runs.{cause_exit, cause_on, rows_exit, rows_on, comes, ends_same, wanting_exit}
use Rattle.resin_sql_more.proofs.joins.join_rows.Goals as goal

pub returns-in_err-columns : goal.returns-in_err-columns
returns-in_err-columns g c = wanting_exit _ c.from_residual.ensures.1 here

pub returns-in-Some : goal.returns-in-Some
unfolding join_rows
returns-in-Some g c =
    cause_exit _ _ c.in-Some.cause (ap (join_cause c.args.statement.now c.args.values.now) (sym (c.as_slice.ensures ∙ c.in_ok-columns.ensures)) ∙ (sym c.join_cause.ensures ∙ c.in-Some.is))

pub returns-in_err-first_rows : goal.returns-in_err-first_rows
unfolding join_rows
returns-in_err-first_rows g c =
    cause_on _ _ _ (ap (join_cause c.args.statement.now c.args.values.now) (sym (c.as_slice.ensures ∙ c.in_ok-columns.ensures)) ∙ (sym c.join_cause.ensures ∙ c.in_default.is))
    (rows_exit _ _ _ _ c.from_residual-in_err-first_rows.ensures.1 c.as_slice-2.ensures c.in_err-first_rows.ensures)

pub returns-in_err-last_rows : goal.returns-in_err-last_rows
unfolding join_rows
returns-in_err-last_rows g c =
    cause_on _ _ _ (ap (join_cause c.args.statement.now c.args.values.now) (sym (c.as_slice.ensures ∙ c.in_ok-columns.ensures)) ∙ (sym c.join_cause.ensures ∙ c.in_default.is))
    (rows_on _ _ _ c.in_ok-first_rows.first_rows _ c.as_slice-2.ensures c.in_ok-first_rows.ensures
    (rows_exit _ _ _ _ c.from_residual-in_err-last_rows.ensures.1 c.as_slice-3.ensures c.in_err-last_rows.ensures))

pub returns : goal.returns
unfolding join_rows
returns g c =
    cause_on _ _ _ (ap (join_cause c.args.statement.now c.args.values.now) (sym (c.as_slice.ensures ∙ c.in_ok-columns.ensures)) ∙ (sym c.join_cause.ensures ∙ c.in_default.is))
    (rows_on _ _ _ c.in_ok-first_rows.first_rows _ c.as_slice-2.ensures c.in_ok-first_rows.ensures
    (rows_on _ _ _ c.in_ok-last_rows.last_rows _ c.as_slice-3.ensures c.in_ok-last_rows.ensures
    (ends_same
    (λ i. Done (join_end c.args.statement.now c.args.values.now c.args.left (sym (c.as_slice-4.ensures ∙ c.in_ok-columns.ensures) i) (length c.args.firsts.now) (sym c.as_slice-5.ensures i) (sym c.as_slice-6.ensures i)))
    (comes _ _ c.join_end.ensures))))
