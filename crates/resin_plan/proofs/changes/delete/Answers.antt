use Rattle.std.proofs.Common.{sym, ap}
use Rattle.resin_plan.specs.Statements.{delete, delete_in}
use Rattle.resin_plan.proofs.Runs.{opened_exit, opened_on, ends_same}
use Rattle.resin_plan.proofs.changes.delete.Goals as goal

pub returns-in_err-columns : goal.returns-in_err-columns
unfolding delete
returns-in_err-columns g c =
    opened_exit _ _ (λ columns. delete_in c.args.statement.now c.args.values.now columns) _ c.from_residual.ensures.1 c.as_slice.ensures c.in_err-columns.ensures

pub returns : goal.returns
unfolding delete
returns g c =
    opened_on _ _ (λ columns. delete_in c.args.statement.now c.args.values.now columns) c.in_ok-columns.columns _ c.as_slice.ensures c.in_ok-columns.ensures
    (ends_same (sym (ap (delete_in c.args.statement.now c.args.values.now) c.as_slice-2.ensures)) c.delete_in.ensures)
