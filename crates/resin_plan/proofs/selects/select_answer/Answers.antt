use Rattle.std.proofs.Common.{List, ℕ, map, ap, ◌∙◌}
use Rattle.resin_plan.specs.Rows.{answered_row, cells_of, row_at}
use Rattle.resin_plan.proofs.Turns.{select_made}
use Rattle.resin_plan.proofs.selects.select_answer.Goals as goal

pub returns : goal.returns
returns c =
    select_made c.args.statement.now c.args.values.now c.args.columns.now c.args.names.now c.in_ok-names.names c.args.rows.now c.in_ok-answer.answer c.in_ok-places.places.items c.order_places.new.places.items c.limit_places.new.places.items
    c.in_ok-names.ensures c.in_ok-places.ensures c.in_ok-order_places.ensures c.limit_places.ensures
    (c.in_ok-answer.ensures
    ∙ (ap (λ (ns : List (List ℕ)). map (λ i. answered_row c.args.columns.now ns (row_at (cells_of c.args.rows.now) i)) c.as_slice-2.result.now) c.as_slice.ensures
    ∙ ap (map (λ i. answered_row c.args.columns.now c.in_ok-names.names (row_at (cells_of c.args.rows.now) i))) c.as_slice-2.ensures.value))
