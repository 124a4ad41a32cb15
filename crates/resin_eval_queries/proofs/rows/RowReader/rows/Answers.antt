use Rattle.resin_eval_writes.proofs.eval_nested_lemmas.Arms.{does_given}
use Rattle.resin_eval_writes.proofs.eval_nested_lemmas.Exits.{does_seen_exit}
use Rattle.resin_eval_writes.proofs.meaning_lemmas.Composition.{does_give, does_next}
use Rattle.resin_eval_queries.proofs.rows.RowReader.rows.Goals as goal

pub returns-in_err-list : goal.returns-in_err-list
returns-in_err-list g c = does_seen_exit _ _ _ _ c.from_residual.ensures.1 c.in_err-list.ensures

pub returns : goal.returns
returns g c = does_next _ _ c.in_ok-list.ensures (does_give _ _)
