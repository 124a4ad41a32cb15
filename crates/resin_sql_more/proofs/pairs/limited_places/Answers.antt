use Rattle.std.proofs.Common.{map, ap, ◌∙◌}
use Rattle.resin_rows.specs.Rows.{cells_of, limited}
use Rattle.resin_plan.proofs.Turns.{map-limited}
use Rattle.resin_sql_more.specs.Joins.{pair_at}
use Rattle.resin_sql_more.proofs.pairs.limited_places.Goals as goal

pub returns : goal.returns
returns c =
    let f = pair_at c.args.width (cells_of c.args.firsts.now) (cells_of c.args.lasts.now) in
    ap (map f) c.limit_pairs.ensures ∙ (map-limited f c.args.statement.now.limit c.in_ok-pairs.pairs.items ∙ ap (limited c.args.statement.now.limit) c.in_ok-pairs.ensures)
