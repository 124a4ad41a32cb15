use Rattle.resin_eval_writes.proofs.eval_nested_lemmas.Exits.{does_seen_exit}
use Rattle.resin_eval_writes.proofs.meaning_lemmas.Composition.{does_next}
use Rattle.resin_eval_queries.proofs.totals.Totaller.of_marks.Goals as goal

pub returns-in_err-sets : goal.returns-in_err-sets
returns-in_err-sets g c = does_seen_exit _ _ _ _ c.from_residual.ensures.1 (c.in_err-sets.ensures _ _ _)

pub returns : goal.returns
returns g c = does_next _ _ (c.in_ok-sets.ensures _ _ _) (rw c.as_slice.ensures.value at c.of_sets.ensures)
