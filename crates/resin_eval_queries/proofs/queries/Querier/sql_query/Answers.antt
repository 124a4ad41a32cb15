use Rattle.resin_eval_writes.proofs.eval_nested_lemmas.Exits.{does_seen_exit, does_seen_unbegun}
use Rattle.resin_eval_writes.proofs.meaning_lemmas.Composition.{does_next}
use Rattle.resin_eval_queries.proofs.queries.Querier.sql_query.Goals as goal

pub returns-in_err-context_of : goal.returns-in_err-context_of
returns-in_err-context_of g c = does_seen_unbegun _ _ _ _ c.from_residual.ensures.1

pub returns-in_err-given : goal.returns-in_err-given
returns-in_err-given g c = does_seen_unbegun _ _ _ _ c.from_residual-in_err-given.ensures.1

pub returns-in_err-kept : goal.returns-in_err-kept
returns-in_err-kept g c = does_seen_exit _ _ _ _ c.from_residual-in_err-kept.ensures.1 (rw (c.in_ok-context_of.ensures, c.in_ok-given.ensures.cases) at c.in_err-kept.ensures)

pub returns : goal.returns
returns g c = does_next _ _ (rw (c.in_ok-context_of.ensures, c.in_ok-given.ensures.cases) at c.in_ok-kept.ensures) c.run_text.ensures
