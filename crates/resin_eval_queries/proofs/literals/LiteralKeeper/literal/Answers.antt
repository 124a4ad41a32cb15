use mir.Val.{SFits}
use Rattle.std.proofs.Common.{ap, List, rules, sym, w64, ℕ, ℤ, ◌∙◌}
use Rattle.std.proofs.lemmas.Int.{to_z-of_z}
use Rattle.resin_eval_writes.specs.Under.meaning_tables.Under.sql_words.declared.literals.Literal.TheVariants.{Integer}
use Rattle.resin_eval_writes.specs.Under.base.declared.cell.Cell.TheVariants as cell
use Rattle.resin_eval_writes.specs.Under.meaning_forms.Cells.{kept_literal}
use Rattle.resin_eval_writes.specs.Under.meaning_forms.Programs.{evals}
use Rattle.resin_eval_writes.specs.Under.store.Cells.{stored}
use Rattle.resin_eval_writes.specs.Under.meaning_tables.Under.sql_words.declared.literals.Literal.{Literal}
use Rattle.resin_eval_writes.proofs.eval_nested_lemmas.Arms.{does_given}
use Rattle.resin_eval_writes.proofs.eval_nested_lemmas.Exits.{does_is}
use Rattle.resin_eval_queries.proofs.literals.LiteralKeeper.literal.Goals as goal

pub returns-in-Null : goal.returns-in-Null
returns-in-Null g c =
    does_is (ap (λ (x : Literal). kept_literal (evals c.args.self.now.by.now.room) c.args.text.now x) c.in-Null.is) (does_given _ _ (ap (λ (b : List ℕ). stored cell.Null (cell.Text b)) c.new.ensures))

pub returns-in-Integer : goal.returns-in-Integer
returns-in-Integer g c =
    let f0 : SFits w64 c.in-Integer.value = search rules in
    does_is
    (ap (λ (x : Literal). kept_literal (evals c.args.self.now.by.now.room) c.args.text.now x) c.in-Integer.is
    ∙ ap (λ (n : ℤ). kept_literal (evals c.args.self.now.by.now.room) c.args.text.now (Integer n c.in-Integer.span)) (sym (to_z-of_z w64 c.in-Integer.value f0)))
    c.integer.ensures

pub returns-in-Text : goal.returns-in-Text
returns-in-Text g c =
    does_is (ap (λ (x : Literal). kept_literal (evals c.args.self.now.by.now.room) c.args.text.now x) c.in-Text.is) (c.text_literal.ensures (evals c.args.self.now.by.now.room) _ _ _)
