use Rattle.resin_eval_writes.proofs.eval_nested_lemmas.Exits.{does_seen_exit}
use Rattle.resin_eval_writes.proofs.meaning_lemmas.Composition.{does_next}
use Rattle.resin_eval_queries.proofs.totals.Totaller.of_sets.Goals as goal

pub returns-in_err-value : goal.returns-in_err-value
returns-in_err-value g c = does_seen_exit _ _ _ _ c.from_residual.ensures.1 (c.in_err-value.ensures _ _ _)

pub returns-in_err-set : goal.returns-in_err-set
returns-in_err-set g c = does_next _ _ (c.in_ok-value.ensures _ _ _) (does_seen_exit _ _ _ _ c.from_residual-in_err-set.ensures.1 c.in_err-set.ensures)

pub returns : goal.returns
returns g c =
    does_next _ _ (c.in_ok-value.ensures _ _ _) (does_next _ _ c.in_ok-set.ensures (rw c.requires.named at c.labelled.ensures))
