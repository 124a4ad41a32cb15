use Rattle.std.proofs.Common.{◌++◌, List, map, sym, ap, ◌∙◌}
use Rattle.std.proofs.lemmas.List.{append-nil}
use Rattle.resin_base.specs.declared.cell.Row.{Row}
use Rattle.resin_plan.specs.Conditions.{where_holds}
use Rattle.resin_plan.specs.Statements.{chosen, chosen_numbers}
use Rattle.resin_plan.proofs.Lists.{nothing_left}
use Rattle.resin_plan.proofs.Loops.{kept_step}
use Rattle.resin_plan.proofs.changes.chosen_numbers.Goals as goal

pub loop-row-preserved : goal.loop-row-preserved
loop-row-preserved c =
    kept_step (λ (r : Row). r.number) (λ (r : Row). where_holds c.args.columns.now c.args.condition.now c.args.values.now r.cells)
    c.args.rows.now c.loop-row.row-index c.row-item.result c.loop-row.numbers.items c.push_number.new.numbers.items c.where_holds-is.result _
    c.loop-row-test.true c.row-item.is (c.where_holds-is.ensures ∙ ap (where_holds c.args.columns.now c.args.condition.now c.args.values.now) c.as_slice.ensures) c.in_ok-push_number.ensures c.loop-row.invariant

pub returns : goal.returns
unfolding chosen_numbers
returns c =
    sym (append-nil c.loop-row.numbers.items)
    ∙ (sym (ap (λ (rs : List Row). c.loop-row.numbers.items ++ map (λ (r : Row). r.number) (chosen c.args.columns.now c.args.condition.now c.args.values.now rs)) (nothing_left c.args.rows.now c.loop-row.row-index c.loop-row-test.false))
    ∙ c.loop-row.invariant)
