use Rattle.resin_eval_nested.specs.Under.meaning_forms.Programs.{evals}
use Rattle.resin_eval_nested.proofs.Arms.{does_no, does_yes}
use Rattle.resin_eval_nested.proofs.meaning_lemmas.Composition.{does_give, does_unbegun_exit}
use Rattle.std.proofs.Common.{sym, ◌∙◌}
use Rattle.resin_eval_merges.proofs.Unasked.{does_merge}
use Rattle.resin_eval_merges.proofs.merges.Merger.merge.Goals as goal

pub returns-then-are_empty : goal.returns-then-are_empty
returns-then-are_empty g c =
    rw c.empty.ensures (does_yes _ _ _ (sym c.are_empty.ensures ∙ c.if-are_empty.true) (does_give _ _))

pub returns-in_err-both : goal.returns-in_err-both
returns-in_err-both g c =
    does_no _ _ _ (sym c.are_empty.ensures ∙ c.if-are_empty.false) (does_unbegun_exit _ _ _ c.from_residual.ensures.1)

pub returns-then-answer_themselves : goal.returns-then-answer_themselves
returns-then-answer_themselves g c =
    does_merge (evals c.args.self.now.by.now.room) c.args.a.now c.args.b.now _ _ _ c.in_ok-both.ensures c.as_slice.ensures.members (c.answer_themselves.ensures c.if-answer_themselves.true)

pub returns : goal.returns
returns g c =
    does_no _ _ _ (sym c.are_empty.ensures ∙ c.if-are_empty.false) c.asked.ensures
