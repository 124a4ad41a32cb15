use Rattle.resin_eval_writes.proofs.eval_nested_lemmas.Arms.{does_settled}
use Rattle.resin_eval_queries.proofs.rows.with_last.Goals as goal

pub returns : goal.returns
returns c = λ f t k. does_settled _ _ c.with_entry.ensures c.settle.ensures.acts
