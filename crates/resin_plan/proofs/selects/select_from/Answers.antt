use Rattle.std.proofs.Common.{ap, ◌∙◌}
use Rattle.resin_plan.specs.Plans.{here, give, passed}
use Rattle.resin_plan.specs.Refusals.{earlier}
use Rattle.resin_plan.specs.Statements.{select_from, selection}
use Rattle.resin_plan.proofs.Runs.{pass_exit, pass_on, rows_exit, rows_on, wanting_exit, gives}
use Rattle.resin_plan.proofs.selects.select_from.Goals as goal

pub returns-in_err-pass : goal.returns-in_err-pass
unfolding select_from
returns-in_err-pass g c =
    pass_exit _ _ _ c.from_residual.ensures.1
    (c.in_err-pass.ensures ∙ ap passed (c.earlier-2.ensures ∙ (λ i. earlier (c.names_cause-named.ensures i) ((c.earlier.ensures ∙ (λ j. earlier (c.where_cause-condition.ensures j) (c.order_cause-order.ensures j))) i))))

pub returns-in_err-rows : goal.returns-in_err-rows
unfolding select_from
returns-in_err-rows g c =
    pass_on _ _ _
    (c.in_ok-pass.ensures ∙ ap passed (c.earlier-2.ensures ∙ (λ i. earlier (c.names_cause-named.ensures i) ((c.earlier.ensures ∙ (λ j. earlier (c.where_cause-condition.ensures j) (c.order_cause-order.ensures j))) i))))
    (rows_exit _ _ _ _ c.from_residual-in_err-rows.ensures.1 c.as_slice.ensures c.in_err-rows.ensures)

pub returns-in_err-select_answer : goal.returns-in_err-select_answer
unfolding select_from
returns-in_err-select_answer g c =
    pass_on _ _ _
    (c.in_ok-pass.ensures ∙ ap passed (c.earlier-2.ensures ∙ (λ i. earlier (c.names_cause-named.ensures i) ((c.earlier.ensures ∙ (λ j. earlier (c.where_cause-condition.ensures j) (c.order_cause-order.ensures j))) i))))
    (rows_on _ _ _ c.in_ok-rows.rows _ c.as_slice.ensures c.in_ok-rows.ensures (wanting_exit _ c.from_residual-in_err-select_answer.ensures.1 here))

pub returns : goal.returns
unfolding select_from
returns g c =
    pass_on _ _ _
    (c.in_ok-pass.ensures ∙ ap passed (c.earlier-2.ensures ∙ (λ i. earlier (c.names_cause-named.ensures i) ((c.earlier.ensures ∙ (λ j. earlier (c.where_cause-condition.ensures j) (c.order_cause-order.ensures j))) i))))
    (rows_on _ _ _ c.in_ok-rows.rows _ c.as_slice.ensures c.in_ok-rows.ensures
    (gives c.in_ok-select_answer.field-0 (ap give (c.in_ok-select_answer.ensures ∙ ap (selection c.args.statement.now c.args.values.now c.args.columns.now c.args.names.now) c.as_slice-2.ensures))))
