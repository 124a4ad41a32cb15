use Rattle.std.proofs.Common.{◌∙◌}
use Rattle.resin_eval_writes.specs.Under.meaning_forms.Programs.{evals}
use Rattle.resin_eval_writes.proofs.eval_nested_lemmas.Exits.{does_is, does_seen_exit, does_seen_unbegun}
use Rattle.resin_eval_writes.proofs.meaning_lemmas.Composition.{does_next}
use Rattle.resin_eval_queries.proofs.RowLemmas.{same_literals}
use Rattle.resin_eval_queries.proofs.queries.Querier.run_statement.Goals as goal

pub returns-in_err-literals : goal.returns-in_err-literals
returns-in_err-literals g c = does_seen_unbegun _ _ _ _ c.from_residual.ensures.1

pub returns-in_err-cells : goal.returns-in_err-cells
returns-in_err-cells g c = does_seen_exit _ _ _ _ c.from_residual-in_err-cells.ensures.1 (does_is (same_literals (evals c.args.self.now.by.now.room) c.args.text.now (c.as_slice.ensures ∙ c.in_ok-literals.ensures)) c.in_err-cells.ensures)

pub returns : goal.returns
returns g c = does_next _ _ (does_is (same_literals (evals c.args.self.now.by.now.room) c.args.text.now (c.as_slice.ensures ∙ c.in_ok-literals.ensures)) c.in_ok-cells.ensures) c.execute.ensures
