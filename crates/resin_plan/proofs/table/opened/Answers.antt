use Rattle.std.proofs.Common.{sym, ap, ◌∙◌}
use Rattle.resin_sql.specs.declared.fault.SqlRefusal.TheVariants.{NoTable}
use Rattle.resin_plan.specs.Columns.{shape}
use Rattle.resin_plan.specs.Plans.{here, wanting}
use Rattle.resin_plan.specs.Statements.{with_columns, with_shape}
use Rattle.resin_plan.specs.TableCalls.{AskColumns}
use Rattle.resin_plan.proofs.Runs.{goes_exit, ends_by, ends_then, leads_on, leads_same, refuses}
use Rattle.resin_plan.proofs.table.opened.Goals as goal

pub returns-in_err-kept : goal.returns-in_err-kept
returns-in_err-kept g c = λ rest. goes_exit rest _ c.from_residual.ensures.1 (ends_by (AskColumns c.args.name.now) (with_columns rest) _ here c.in_err-kept.ensures)

pub returns-in_default : goal.returns-in_default
returns-in_default g c =
    λ rest. ends_then (leads_on (AskColumns c.args.name.now) (with_columns rest) c.in_ok-kept.field-0 here c.in_ok-kept.ensures) (refuses NoTable (sym (ap (with_columns rest) c.in_default.is)))

pub returns-in_err-columns : goal.returns-in_err-columns
returns-in_err-columns g c =
    λ rest. goes_exit rest _ c.from_residual-in_err-columns.ensures.1 (wanting (leads_on (AskColumns c.args.name.now) (with_columns rest) c.in_ok-kept.field-0 here c.in_ok-kept.ensures))

pub returns-in-Some-2 : goal.returns-in-Some-2
returns-in-Some-2 g c =
    λ rest. leads_same
    (ap (with_columns rest) c.in-Some.is ∙ (sym (ap (λ kept. with_shape rest (shape kept)) c.as_slice.ensures) ∙ (sym (ap (with_shape rest) c.in_ok-columns.ensures) ∙ ap (with_shape rest) c.in-Some-2.is)))
    (leads_on (AskColumns c.args.name.now) (with_columns rest) c.in_ok-kept.field-0 here c.in_ok-kept.ensures)

pub returns : goal.returns
returns g c =
    λ rest. ends_then (leads_on (AskColumns c.args.name.now) (with_columns rest) c.in_ok-kept.field-0 here c.in_ok-kept.ensures)
    (refuses NoTable (sym (ap (with_columns rest) c.in-Some.is ∙ (sym (ap (λ kept. with_shape rest (shape kept)) c.as_slice.ensures) ∙ (sym (ap (with_shape rest) c.in_ok-columns.ensures) ∙ ap (with_shape rest) c.in-None.is)))))
