use Rattle.resin_eval_writes.proofs.eval_nested_lemmas.Exits.{does_seen_exit, does_seen_unbegun}
use Rattle.resin_eval_writes.proofs.meaning_lemmas.Composition.{does_give, does_next}
use Rattle.resin_eval_queries.proofs.cells.CellReader.text.Goals as goal

pub returns-in_err-context : goal.returns-in_err-context
returns-in_err-context g c = does_seen_unbegun _ _ _ _ c.from_residual.ensures.1

pub returns-in_err-read : goal.returns-in_err-read
returns-in_err-read g c = does_seen_exit _ _ _ _ c.from_residual-in_err-read.ensures.1 (rw c.in_ok-context.ensures at c.in_err-read.ensures)

pub returns : goal.returns
returns g c = does_next _ _ (rw c.in_ok-context.ensures at c.in_ok-read.ensures) (does_give _ _)
