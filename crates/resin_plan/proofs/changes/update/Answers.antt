use Rattle.std.proofs.Common.{List, map, ap, ◌∙◌}
use Rattle.resin_sql.specs.declared.tree.Change.{Change}
use Rattle.resin_plan.specs.Plans.{here}
use Rattle.resin_plan.specs.Statements.{update, update_in, changed_names}
use Rattle.resin_plan.proofs.Runs.{opened_exit, opened_on, renamed, wanting_exit}
use Rattle.resin_plan.proofs.changes.update.Goals as goal

pub returns-in_err-names : goal.returns-in_err-names
returns-in_err-names g c = wanting_exit _ c.from_residual.ensures.1 here

pub returns-in_err-columns : goal.returns-in_err-columns
unfolding update
returns-in_err-columns g c =
    opened_exit _ _ (λ columns. update_in c.args.statement.now c.args.values.now columns (changed_names c.args.statement.now)) _ c.from_residual-in_err-columns.ensures.1 c.as_slice-2.ensures c.in_err-columns.ensures

pub returns : goal.returns
unfolding update
returns g c =
    opened_on _ _ (λ columns. update_in c.args.statement.now c.args.values.now columns (changed_names c.args.statement.now)) c.in_ok-columns.columns _ c.as_slice-2.ensures c.in_ok-columns.ensures
    (renamed (update_in c.args.statement.now c.args.values.now) _ _ _ _ c.as_slice-3.ensures
    (c.as_slice-4.ensures ∙ (c.in_ok-names.ensures ∙ ap (λ (cs : List Change). map (λ (x : Change). x.column) cs) c.as_slice.ensures)) c.update_in.ensures)
