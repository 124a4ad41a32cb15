use Rattle.std.proofs.Common.{◌++◌, List, take, drop, map, sym, ap, ◌∙◌}
use Rattle.std.proofs.lemmas.List.{append-nil}
use Rattle.resin_base.specs.declared.cell.Row.{Row}
use Rattle.resin_plan.specs.Conditions.{where_holds}
use Rattle.resin_plan.specs.Statements.{chosen, changed_row, changed_rows}
use Rattle.resin_plan.proofs.Lists.{nothing_left}
use Rattle.resin_plan.proofs.Loops.{kept_step}
use Rattle.resin_plan.proofs.changes.changed_rows.Goals as goal

pub loop-row-preserved : goal.loop-row-preserved
loop-row-preserved c =
    kept_step (changed_row c.args.columns.now c.args.names.now c.split.result.0.now) (λ (r : Row). where_holds c.args.columns.now c.args.statement.now.condition c.split.result.1.now r.cells)
    c.args.rows.now c.loop-row.row-index c.row-item.result c.loop-row.out c.push_changed.new.out c.where_holds-is.result _
    c.loop-row-test.true c.row-item.is (c.where_holds-is.ensures ∙ ap (where_holds c.args.columns.now c.args.statement.now.condition c.split.result.1.now) c.as_slice.ensures) c.in_ok-push_changed.ensures c.loop-row.invariant

pub returns : goal.returns
unfolding changed_rows
returns c =
    sym (append-nil c.loop-row.out)
    ∙ (sym (ap (λ (rs : List Row). c.loop-row.out ++ map (changed_row c.args.columns.now c.args.names.now c.split.result.0.now) (chosen c.args.columns.now c.args.statement.now.condition c.split.result.1.now rs)) (nothing_left c.args.rows.now c.loop-row.row-index c.loop-row-test.false))
    ∙ (c.loop-row.invariant
    ∙ (λ i. map (changed_row c.args.columns.now c.args.names.now ((c.split.ensures.own ∙ ap (λ n. take n c.args.values.now) c.len.ensures) i)) (chosen c.args.columns.now c.args.statement.now.condition ((c.split.ensures.others ∙ ap (λ n. drop n c.args.values.now) c.len.ensures) i) c.args.rows.now))))
