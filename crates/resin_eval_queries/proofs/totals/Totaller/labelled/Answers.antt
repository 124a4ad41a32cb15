use mir.Val.{SFits}
use Rattle.std.proofs.Common.{ap, List, rules, sym, w64, ℕ, ℤ, ◌∙◌}
use Rattle.std.proofs.lemmas.Int.{to_z-of_z}
use Rattle.resin_eval_writes.specs.Under.lstr.Texts.{Text as LabelledText, carrying}
use Rattle.resin_eval_writes.specs.Under.meaning_forms.Cells.{read_text}
use Rattle.resin_eval_writes.specs.Under.value.Trees.{integer}
use Rattle.resin_eval_writes.proofs.eval_nested_lemmas.Arms.{does_given}
use Rattle.resin_eval_writes.specs.Under.base.declared.cell.Cell.{Cell}
use Rattle.resin_eval_writes.specs.Under.meaning_forms.Programs.{evals}
use Rattle.resin_eval_writes.specs.Under.meaning_forms.Totals.{total_value}
use Rattle.resin_eval_writes.proofs.eval_nested_lemmas.Exits.{does_is, does_seen_unbegun}
use Rattle.resin_eval_writes.proofs.meaning_lemmas.Composition.{does_give}
use Rattle.resin_eval_queries.proofs.totals.Totaller.labelled.Goals as goal

pub returns-in-Null : goal.returns-in-Null
returns-in-Null g c = does_is (ap (λ (v : Cell). total_value (evals c.args.self.now.by.now.room) c.args.name.now c.args.set v) c.in-Null.is) (does_give _ _)

pub returns-in-Int : goal.returns-in-Int
returns-in-Int g c =
    let f0 : SFits w64 c.in-Int.n = search rules in
    does_is (ap (λ (v : Cell). total_value (evals c.args.self.now.by.now.room) c.args.name.now c.args.set v) c.in-Int.is)
    (does_given _ _ (ap (λ (n : ℤ). integer n c.args.set) (to_z-of_z w64 c.in-Int.n f0)))

pub returns-in_err-text-in-Text : goal.returns-in_err-text-in-Text
returns-in_err-text-in-Text g c = does_is (ap (λ (v : Cell). total_value (evals c.args.self.now.by.now.room) c.args.name.now c.args.set v) c.in-Text.is) (does_seen_unbegun _ _ _ _ c.from_residual.ensures.1)

pub returns-in_ok-text-in-Text : goal.returns-in_ok-text-in-Text
returns-in_ok-text-in-Text g c =
    does_is
    (ap (λ (v : Cell). total_value (evals c.args.self.now.by.now.room) c.args.name.now c.args.set v) c.in-Text.is
    ∙ ap (λ (t : LabelledText). read_text (evals c.args.self.now.by.now.room) c.args.name.now t) (sym (c.in_ok-text-in-Text.ensures ∙ ap (λ (bs : List ℕ). carrying c.args.set bs) c.as_slice.ensures)))
    c.text.ensures
