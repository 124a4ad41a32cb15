use Rattle.std.proofs.Common.{◌≡◌, ◌++◌, drop, map}
use Rattle.resin_base.specs.declared.cell.Row.{Row}
use Rattle.resin_plan.specs.Statements as plan
use Rattle.resin_plan.proofs.changes.chosen_numbers.Given as goal

abbrev pub invariant-loop-row : goal.invariant-loop-row
invariant-loop-row l =
    l.numbers.items ++ map (λ (r : Row). r.number) (plan.chosen l.columns l.condition l.values (drop l.row-index l.rows)) ≡ map (λ (r : Row). r.number) (plan.chosen l.columns l.condition l.values l.fn.rows)
