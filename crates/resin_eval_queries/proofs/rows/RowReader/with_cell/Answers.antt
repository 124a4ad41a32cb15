use Rattle.resin_eval_writes.proofs.meaning_lemmas.Composition.{does_exit, does_next}
use Rattle.resin_eval_writes.proofs.eval_nested_lemmas.Exits.{does_seen_exit}
use Rattle.resin_eval_queries.proofs.rows.RowReader.with_cell.Goals as goal

pub returns-in_err-v : goal.returns-in_err-v
returns-in_err-v g c = does_exit _ _ _ c.from_residual.ensures.1 c.in_err-v.ensures

pub returns : goal.returns
returns g c = does_next _ _ c.in_ok-v.ensures (c.with_named.ensures _ _ _)
