use Rattle.std.proofs.Common.{length, sym, ap, ◌∙◌}
use Rattle.resin_plan.specs.Plans.{here, passed}
use Rattle.resin_plan.specs.Statements.{delete_in, delete_rows, chosen_numbers}
use Rattle.resin_plan.proofs.Runs.{pass_exit, pass_on, rows_exit, rows_on, wanting_exit, ends_same}
use Rattle.resin_plan.proofs.changes.delete_in.Goals as goal

pub returns-in_err-pass : goal.returns-in_err-pass
unfolding delete_in
returns-in_err-pass g c = pass_exit _ _ _ c.from_residual.ensures.1 (c.in_err-pass.ensures ∙ ap passed c.where_cause.ensures)

pub returns-in_err-rows : goal.returns-in_err-rows
unfolding delete_in
returns-in_err-rows g c =
    pass_on _ _ _ (c.in_ok-pass.ensures ∙ ap passed c.where_cause.ensures) (rows_exit _ _ _ _ c.from_residual-in_err-rows.ensures.1 c.as_slice.ensures c.in_err-rows.ensures)

pub returns-in_err-numbers : goal.returns-in_err-numbers
unfolding delete_in
returns-in_err-numbers g c =
    pass_on _ _ _ (c.in_ok-pass.ensures ∙ ap passed c.where_cause.ensures)
    (rows_on _ _ _ c.in_ok-rows.rows _ c.as_slice.ensures c.in_ok-rows.ensures (wanting_exit _ c.from_residual-in_err-numbers.ensures.1 here))

pub returns : goal.returns
unfolding delete_in
returns g c =
    pass_on _ _ _ (c.in_ok-pass.ensures ∙ ap passed c.where_cause.ensures)
    (rows_on _ _ _ c.in_ok-rows.rows _ c.as_slice.ensures c.in_ok-rows.ensures
    (ends_same
    (λ i. delete_rows (length (sym c.as_slice-5.ensures i)) (sym c.as_slice-3.ensures i)
    (sym (c.as_slice-4.ensures.value ∙ (c.in_ok-numbers.ensures ∙ ap (chosen_numbers c.args.columns.now c.args.statement.now.condition c.args.values.now) c.as_slice-2.ensures)) i) 0)
    c.delete_rows.ensures))
