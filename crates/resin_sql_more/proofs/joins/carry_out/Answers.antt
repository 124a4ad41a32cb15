use Rattle.std.proofs.Common.{sym, ◌∙◌}
use Rattle.resin_sql.specs.declared.fault.SqlRefusal.TheVariants.{SameTable}
use Rattle.resin_plan.specs.Plans.{here}
use Rattle.resin_sql_more.specs.Joins.{join_on}
use Rattle.resin_sql_more.proofs.Carried.{behind_first, joined_same, joined_apart}
use Rattle.resin_sql_more.proofs.Runs.{ends_same, refuses, columns_exit, columns_on, wanting_exit}
use Rattle.resin_sql_more.proofs.joins.carry_out.Goals as goal

pub returns-then-is_same : goal.returns-then-is_same
returns-then-is_same g c = refuses SameTable (joined_same c.args.statement.now c.args.values.now c.args.left (sym c.is_same.ensures ∙ c.if-is_same.true))

pub returns-in_err-kept : goal.returns-in_err-kept
returns-in_err-kept g c =
    ends_same (joined_apart c.args.statement.now c.args.values.now c.args.left (sym c.is_same.ensures ∙ c.if-is_same.false))
    (columns_exit _ _ (behind_first c.args.statement.now c.args.values.now c.args.left) _ c.from_residual.ensures.1 c.as_slice.ensures c.in_err-kept.ensures)

pub returns-in_err-others : goal.returns-in_err-others
returns-in_err-others g c =
    ends_same (joined_apart c.args.statement.now c.args.values.now c.args.left (sym c.is_same.ensures ∙ c.if-is_same.false))
    (columns_on _ _ (behind_first c.args.statement.now c.args.values.now c.args.left) c.in_ok-kept.kept _ c.as_slice.ensures c.in_ok-kept.ensures
    (columns_exit _ _ _ _ c.from_residual-in_err-others.ensures.1 c.as_slice-2.ensures c.in_err-others.ensures))

pub returns-in_err-firsts : goal.returns-in_err-firsts
returns-in_err-firsts g c =
    ends_same (joined_apart c.args.statement.now c.args.values.now c.args.left (sym c.is_same.ensures ∙ c.if-is_same.false))
    (columns_on _ _ (behind_first c.args.statement.now c.args.values.now c.args.left) c.in_ok-kept.kept _ c.as_slice.ensures c.in_ok-kept.ensures
    (columns_on _ _ _ c.in_ok-others.others _ c.as_slice-2.ensures c.in_ok-others.ensures (wanting_exit _ c.from_residual-in_err-firsts.ensures.1 here)))

pub returns-in_err-lasts : goal.returns-in_err-lasts
returns-in_err-lasts g c =
    ends_same (joined_apart c.args.statement.now c.args.values.now c.args.left (sym c.is_same.ensures ∙ c.if-is_same.false))
    (columns_on _ _ (behind_first c.args.statement.now c.args.values.now c.args.left) c.in_ok-kept.kept _ c.as_slice.ensures c.in_ok-kept.ensures
    (columns_on _ _ _ c.in_ok-others.others _ c.as_slice-2.ensures c.in_ok-others.ensures (wanting_exit _ c.from_residual-in_err-lasts.ensures.1 here)))

pub returns : goal.returns
returns g c =
    ends_same (joined_apart c.args.statement.now c.args.values.now c.args.left (sym c.is_same.ensures ∙ c.if-is_same.false))
    (columns_on _ _ (behind_first c.args.statement.now c.args.values.now c.args.left) c.in_ok-kept.kept _ c.as_slice.ensures c.in_ok-kept.ensures
    (columns_on _ _ _ c.in_ok-others.others _ c.as_slice-2.ensures c.in_ok-others.ensures
    (ends_same (λ i. join_on c.args.statement.now c.args.values.now c.args.left (sym c.in_ok-firsts.ensures i) (sym c.in_ok-lasts.ensures i)) c.join_on.ensures)))
