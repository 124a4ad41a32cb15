use Rattle.std.proofs.Common.{◌≡◌, ◌++◌, drop, map}
use Rattle.resin_plan.specs.Rows.{answered_row, cells_of, row_at}
use Rattle.resin_plan.proofs.selects.answered_rows.Given as goal

abbrev pub invariant-loop-place : goal.invariant-loop-place
invariant-loop-place l =
    l.answer ++ map (λ i. answered_row l.columns l.names (row_at (cells_of l.rows) i)) (drop l.place-index l.places) ≡ map (λ i. answered_row l.columns l.names (row_at (cells_of l.rows) i)) l.fn.places
