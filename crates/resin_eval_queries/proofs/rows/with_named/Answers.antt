use Rattle.resin_eval_writes.proofs.eval_nested_lemmas.Arms.{does_settled}
use Rattle.resin_eval_writes.proofs.step_parts_lemmas.Steps.{does_lost_act}
use Rattle.resin_eval_queries.proofs.RowLemmas.{lawful_key}
use Rattle.resin_eval_queries.proofs.rows.with_named.Goals as goal

pub with_entry-requires : goal.with_entry-requires
with_entry-requires c = rw c.in_ok-from_text.ensures (record { lawful = lawful_key c.args.name.now })

pub returns-in_err-from_text : goal.returns-in_err-from_text
returns-in_err-from_text c = λ f t k. does_lost_act _ _ c.from_residual.ensures.1

pub returns : goal.returns
returns c = λ f t k. does_settled _ _ (rw c.in_ok-from_text.ensures at c.with_entry.ensures) c.settle.ensures.acts
