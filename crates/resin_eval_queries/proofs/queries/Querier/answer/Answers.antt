use Rattle.std.proofs.Common.{ap}
use Rattle.resin_eval_writes.specs.Under.meaning_forms.Programs.{evals}
use Rattle.resin_eval_writes.specs.Under.meaning_forms.Queries.{result_value}
use Rattle.resin_eval_writes.proofs.eval_nested_lemmas.Arms.{does_given}
use Rattle.resin_eval_writes.proofs.eval_nested_lemmas.Exits.{does_is, does_seen_none}
use Rattle.resin_eval_writes.specs.Under.meaning_tables.Under.plan.declared.answer.SqlResult.{SqlResult}
use Rattle.resin_eval_queries.proofs.RowLemmas.{same_rows}
use Rattle.resin_eval_queries.proofs.queries.Querier.answer.Goals as goal

pub returns-in_err-count_of-in-Count : goal.returns-in_err-count_of-in-Count
returns-in_err-count_of-in-Count g c = does_is (ap (λ (x : SqlResult). result_value (evals c.args.self.now.by.now.room) x) c.in-Count.is) (does_seen_none _ _ _ c.from_residual.ensures.1)

pub returns-in_ok-count_of-in-Count : goal.returns-in_ok-count_of-in-Count
returns-in_ok-count_of-in-Count g c = does_is (ap (λ (x : SqlResult). result_value (evals c.args.self.now.by.now.room) x) c.in-Count.is) (does_given _ _ c.in_ok-count_of-in-Count.ensures)

pub returns-in-Rows : goal.returns-in-Rows
returns-in-Rows g c = does_is (ap (λ (x : SqlResult). result_value (evals c.args.self.now.by.now.room) x) c.in-Rows.is) (does_is (same_rows (evals c.args.self.now.by.now.room) c.as_slice.ensures c.as_slice-in-Rows.ensures) c.rows.ensures)
