use mir.Val.{SFits}
use Rattle.std.proofs.Common.{◌≡◌, ◌∙◌, refl, ap, sym, rules, w64, ℤ}
use Rattle.std.proofs.lemmas.Int.{to_z-of_z}
use Rattle.resin_eval_writes.specs.Under.base.declared.cell.Cell.{Cell}
use Rattle.resin_eval_writes.specs.Under.base.declared.cell.Cell.TheVariants as cell
use Rattle.resin_eval_writes.specs.Under.label.Sets.{NumberSet}
use Rattle.resin_eval_writes.specs.Under.lstr.Texts.{Text as LabelledText}
use Rattle.resin_eval_writes.specs.Under.meaning_forms.Cells.{read_text, read_value}
use Rattle.resin_eval_writes.specs.Under.meaning_forms.Parts.{Evals}
use Rattle.resin_eval_writes.specs.Under.meaning_forms.Programs.{evals}
use Rattle.resin_eval_writes.specs.Under.value.Trees.{integer}
use Rattle.resin_eval_writes.proofs.eval_nested_lemmas.Arms.{does_given}
use Rattle.resin_eval_writes.proofs.eval_nested_lemmas.Exits.{does_is, does_seen_none}
use Rattle.resin_eval_queries.proofs.Values.{read_as_text}
use Rattle.resin_eval_queries.proofs.cells.CellReader.value.Goals as goal

pub returns-in_err-first_set-in-Int : goal.returns-in_err-first_set-in-Int
returns-in_err-first_set-in-Int g c =
    does_is (ap (λ (v : Cell). read_value (evals c.args.self.now.by.now.room) c.args.column.now v c.args.text) c.in-Int.is) (does_seen_none _ _ _ c.from_residual.ensures.1)

same_integer : (m n : ℤ) (s t : NumberSet) → m ≡ n → s ≡ t → integer m s ≡ integer n t
same_integer m n s t p q = ap (λ (x : ℤ). integer x s) p ∙ ap (λ (y : NumberSet). integer n y) q

pub returns-in_ok-first_set-in-Int : goal.returns-in_ok-first_set-in-Int
returns-in_ok-first_set-in-Int g c =
    let f0 : SFits w64 c.in-Int.n = search rules in
    does_is (ap (λ (v : Cell). read_value (evals c.args.self.now.by.now.room) c.args.column.now v c.args.text) c.in-Int.is)
    (does_given _ _ (same_integer _ c.in-Int.n _ _ (to_z-of_z w64 c.in-Int.n f0) c.in_ok-first_set-in-Int.ensures))

pub returns-in_default : goal.returns-in_default
returns-in_default g c =
    does_is (read_as_text (evals c.args.self.now.by.now.room) c.args.column.now c.args.value.now c.args.text c.in_default.not-Int) c.text.ensures
