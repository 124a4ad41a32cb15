use Rattle.std.proofs.Common.{◌∙◌}
use Rattle.resin_eval_writes.specs.Under.meaning_forms.Programs.{evals}
use Rattle.resin_eval_writes.proofs.eval_nested_lemmas.Exits.{does_is, does_seen_exit, does_seen_lost, does_seen_unbegun}
use Rattle.resin_eval_writes.proofs.meaning_lemmas.Composition.{does_give, does_next}
use Rattle.resin_eval_queries.proofs.RowLemmas.{same_items}
use Rattle.resin_eval_queries.proofs.totals.Totaller.total.Goals as goal

pub returns-in_err-first : goal.returns-in_err-first
returns-in_err-first g c = does_seen_unbegun _ _ _ _ c.from_residual.ensures.1

pub returns-in_err-row : goal.returns-in_err-row
returns-in_err-row g c = does_seen_exit _ _ _ _ c.from_residual-in_err-row.ensures.1 (does_is (same_items (evals c.args.self.now.by.now.room) c.args.answer.now.chosen (c.as_slice.ensures.value ∙ c.in_ok-first.ensures) c.as_slice-2.ensures) c.in_err-row.ensures)

pub returns-in_err-new : goal.returns-in_err-new
returns-in_err-new g c = does_seen_lost _ _ _ _ c.from_residual-in_err-new.ensures.1 (does_is (same_items (evals c.args.self.now.by.now.room) c.args.answer.now.chosen (c.as_slice.ensures.value ∙ c.in_ok-first.ensures) c.as_slice-2.ensures) c.in_ok-row.ensures)

pub returns-in_err-list : goal.returns-in_err-list
returns-in_err-list g c =
    does_next _ _ (does_is (same_items (evals c.args.self.now.by.now.room) c.args.answer.now.chosen (c.as_slice.ensures.value ∙ c.in_ok-first.ensures) c.as_slice-2.ensures) c.in_ok-row.ensures) (does_seen_exit _ _ _ _ c.from_residual-in_err-list.ensures.1 ((rw c.in_ok-new.ensures at c.in_err-list.ensures) _ _ _))

pub returns : goal.returns
returns g c =
    does_next _ _ (does_is (same_items (evals c.args.self.now.by.now.room) c.args.answer.now.chosen (c.as_slice.ensures.value ∙ c.in_ok-first.ensures) c.as_slice-2.ensures) c.in_ok-row.ensures) (does_next _ _ ((rw c.in_ok-new.ensures at c.in_ok-list.ensures) _ _ _) (does_give _ _))
