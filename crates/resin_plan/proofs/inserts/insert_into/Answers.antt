use Rattle.std.proofs.Common.{sym, ap, ◌∙◌}
use Rattle.resin_plan.specs.Plans.{passed}
use Rattle.resin_plan.specs.Refusals.{earlier, rows_cause}
use Rattle.resin_plan.specs.Rows.{inserted}
use Rattle.resin_plan.specs.Statements.{insert_into, insert_rows}
use Rattle.resin_plan.proofs.Runs.{pass_exit, pass_on, ends_same}
use Rattle.resin_plan.proofs.inserts.insert_into.Goals as goal

pub returns-in_err-pass : goal.returns-in_err-pass
unfolding insert_into
returns-in_err-pass g c =
    pass_exit _ _ _ c.from_residual.ensures.1
    (c.in_err-pass.ensures ∙ ap passed (c.earlier.ensures ∙ (λ i. earlier (c.once_cause-named.ensures i) ((c.rows_cause-valued.ensures ∙ ap (λ rs. rows_cause c.args.columns.now c.args.names.now rs c.args.values.now) c.as_slice-rows.ensures) i))))

pub returns : goal.returns
unfolding insert_into
returns g c =
    pass_on _ _ _
    (c.in_ok-pass.ensures ∙ ap passed (c.earlier.ensures ∙ (λ i. earlier (c.once_cause-named.ensures i) ((c.rows_cause-valued.ensures ∙ ap (λ rs. rows_cause c.args.columns.now c.args.names.now rs c.args.values.now) c.as_slice-rows.ensures) i))))
    (ends_same (λ i. insert_rows (sym c.as_slice.ensures i) (inserted c.args.columns.now c.args.names.now (sym c.as_slice-rows.ensures i) c.args.values.now) 0) c.insert_rows.ensures)
