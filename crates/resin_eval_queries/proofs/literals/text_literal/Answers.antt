use Rattle.std.proofs.Common.{ap, ◌∙◌, List, ℕ}
use Rattle.resin_eval_writes.specs.Under.lstr.Texts.{bytes_of}
use Rattle.resin_eval_writes.specs.Under.base.declared.cell.Cell.TheVariants as cell
use Rattle.resin_eval_writes.specs.Under.meaning_forms.Parts.{Evals}
use Rattle.resin_eval_writes.specs.Under.store.Cells.{stored}
use Rattle.resin_eval_writes.proofs.eval_nested_lemmas.Arms.{does_given}
use Rattle.resin_eval_writes.proofs.meaning_lemmas.Composition.{does_exit, does_lost_exit, does_next, does_unbegun_exit}
use Rattle.resin_eval_queries.proofs.literals.text_literal.Goals as goal

pub returns-in_err-meant : goal.returns-in_err-meant
returns-in_err-meant c =
    λ ev f t k. does_unbegun_exit _ _ _ c.from_residual.ensures.1

pub returns-in_err-shadow : goal.returns-in_err-shadow
returns-in_err-shadow c =
    λ ev f t k. does_exit _ _ _ c.from_residual-in_err-shadow.ensures.1 ((rw c.in_ok-meant.ensures at c.in_err-shadow.ensures) f t k)

pub returns-in_err-bytes : goal.returns-in_err-bytes
returns-in_err-bytes c =
    λ ev f t k. does_lost_exit _ _ _ c.from_residual-in_err-bytes.ensures.1 ((rw c.in_ok-meant.ensures at c.in_ok-shadow.ensures) f t k)

pub returns : goal.returns
returns c =
    λ ev f t k. does_next _ _ ((rw c.in_ok-meant.ensures at c.in_ok-shadow.ensures) f t k)
    (does_given _ _ (ap (λ (b : List ℕ). stored (cell.Text b) (cell.Text c.in_ok-shadow.shadow)) (c.in_ok-bytes.ensures ∙ (c.bytes.ensures ∙ ap bytes_of c.in_ok-meant.ensures))))
