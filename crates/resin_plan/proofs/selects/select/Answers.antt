use Rattle.std.proofs.Common.{sym, ap, ◌∙◌}
use Rattle.resin_rows.specs.Columns.{names_of}
use Rattle.resin_plan.specs.Plans.{here}
use Rattle.resin_plan.specs.Statements.{select, select_from, named}
use Rattle.resin_plan.proofs.Runs.{opened_exit, opened_on, renamed, wanting_exit}
use Rattle.resin_plan.proofs.selects.select.Goals as goal
use Rattle.resin_plan.proofs.selects.select.Goals.{in-Some, in-None+in_ok-all-in-None}

pub returns-in_err-columns : goal.returns-in_err-columns
unfolding select
returns-in_err-columns g c =
    opened_exit _ _ (λ columns. select_from c.args.statement.now c.args.values.now columns (named c.args.statement.now.columns columns)) _ c.from_residual.ensures.1 c.as_slice.ensures c.in_err-columns.ensures

pub returns-in_err-all-in-None : goal.returns-in_err-all-in-None
unfolding select
returns-in_err-all-in-None g c =
    opened_on _ _ (λ columns. select_from c.args.statement.now c.args.values.now columns (named c.args.statement.now.columns columns)) c.in_ok-columns.columns _ c.as_slice.ensures c.in_ok-columns.ensures
    (wanting_exit _ c.from_residual-in_err-all-in-None.ensures.1 here)

pub returns : goal.returns
unfolding select
returns g c =
    opened_on _ _ (λ columns. select_from c.args.statement.now c.args.values.now columns (named c.args.statement.now.columns columns)) c.in_ok-columns.columns _ c.as_slice.ensures c.in_ok-columns.ensures
    (renamed (select_from c.args.statement.now c.args.values.now) _ _ _ _ c.as_slice-2.ensures
    (c.as_slice-3.ensures ∙ elim c.match-statement.branch [
      | in-Some w ↦ ap (λ names. names.now) w.names-is ∙ sym (ap (λ o. named o c.in_ok-columns.columns) w.in-Some.is)
      | in-None+in_ok-all-in-None w ↦ ap (λ names. names.now) w.names-is ∙ (w.in_ok-all-in-None.ensures
          ∙ (ap names_of w.as_slice-in-None.ensures ∙ sym (ap (λ o. named o c.in_ok-columns.columns) w.in-None.is)))
    ]) c.select_from.ensures)
