use Rattle.std.proofs.Common.{ap, ◌∙◌, sym}
use Rattle.resin_eval_writes.specs.Under.meaning_forms.Cells.{whole_marks}
use Rattle.resin_eval_writes.specs.Under.store.Entries.{LabelledEntry}
use Rattle.resin_eval_writes.proofs.eval_nested_lemmas.Arms.{does_faulted}
use Rattle.resin_eval_writes.proofs.eval_nested_lemmas.Exits.{does_is}
use Rattle.resin_eval_queries.proofs.CellLemmas.{marks_damaged, marks_lost}
use Rattle.resin_eval_queries.proofs.cells.cell_marks.Goals as goal

pub returns-in_err-entry : goal.returns-in_err-entry
returns-in_err-entry c = λ f t k. marks_lost _ _ c.from_residual.ensures.1

pub returns-in-Some : goal.returns-in-Some
returns-in-Some c = λ f t k. does_is (ap (λ (l : LabelledEntry). whole_marks l) (rw c.in-Some.is at c.in_ok-entry.ensures)) (c.entry_marks.ensures f t k)

pub returns-in-None : goal.returns-in-None
returns-in-None c = λ f t k. does_is (ap (λ (l : LabelledEntry). whole_marks l) (rw c.in-None.is at c.in_ok-entry.ensures) ∙ marks_damaged c.args.cell.now.value) (does_faulted _ _ (rw c.damage.ensures at c.fault.ensures))
