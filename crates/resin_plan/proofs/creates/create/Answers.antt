use Rattle.std.proofs.Common.{sym, ap, ◌∙◌}
use Rattle.resin_sql.specs.declared.fault.SqlRefusal.TheVariants.{TableExists}
use Rattle.resin_plan.specs.Columns.{names_of, is_repeated, paired}
use Rattle.resin_plan.specs.Plans.{here}
use Rattle.resin_plan.specs.Statements.{created}
use Rattle.resin_plan.proofs.Runs.{wanting_exit, ends_same, make_exit, make_on, gives, refuses}
use Rattle.resin_plan.proofs.Turns.{create_repeated, create_call}
use Rattle.resin_plan.proofs.creates.create.Goals as goal

pub returns-in_err-names : goal.returns-in_err-names
returns-in_err-names g c = wanting_exit _ c.from_residual.ensures.1 here

pub returns-then-is_repeated : goal.returns-then-is_repeated
returns-then-is_repeated g c =
    create_repeated c.args.statement.now
    (ap is_repeated (sym (c.as_slice-2.ensures ∙ (c.in_ok-names.ensures ∙ ap names_of c.as_slice.ensures))) ∙ (sym c.is_repeated.ensures ∙ c.if-is_repeated.true))

pub returns-in_err-columns : goal.returns-in_err-columns
returns-in_err-columns g c = wanting_exit _ c.from_residual-in_err-columns.ensures.1 here

pub returns-in_err-create_table : goal.returns-in_err-create_table
returns-in_err-create_table g c =
    ends_same
    (create_call c.args.statement.now (ap is_repeated (sym (c.as_slice-2.ensures ∙ (c.in_ok-names.ensures ∙ ap names_of c.as_slice.ensures))) ∙ (sym c.is_repeated.ensures ∙ c.if-is_repeated.false)))
    (make_exit _ _ _ _ created _ c.from_residual-in_err-create_table.ensures.1 c.as_slice-4.ensures (c.in_ok-columns.ensures ∙ ap paired c.as_slice-3.ensures) c.in_err-create_table.ensures)

pub returns-then-branch : goal.returns-then-branch
returns-then-branch g c =
    ends_same
    (create_call c.args.statement.now (ap is_repeated (sym (c.as_slice-2.ensures ∙ (c.in_ok-names.ensures ∙ ap names_of c.as_slice.ensures))) ∙ (sym c.is_repeated.ensures ∙ c.if-is_repeated.false)))
    (make_on _ _ _ _ created c.in_ok-create_table.field-0 _ c.as_slice-4.ensures (c.in_ok-columns.ensures ∙ ap paired c.as_slice-3.ensures) c.in_ok-create_table.ensures
    (gives c.counted.result (c.counted.ensures ∙ sym (ap created c.if-branch.true))))

pub returns : goal.returns
returns g c =
    ends_same
    (create_call c.args.statement.now (ap is_repeated (sym (c.as_slice-2.ensures ∙ (c.in_ok-names.ensures ∙ ap names_of c.as_slice.ensures))) ∙ (sym c.is_repeated.ensures ∙ c.if-is_repeated.false)))
    (make_on _ _ _ _ created c.in_ok-create_table.field-0 _ c.as_slice-4.ensures (c.in_ok-columns.ensures ∙ ap paired c.as_slice-3.ensures) c.in_ok-create_table.ensures
    (refuses TableExists (sym (ap created c.if-branch.false))))
