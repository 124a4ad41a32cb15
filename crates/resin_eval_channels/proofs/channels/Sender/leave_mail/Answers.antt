use Rattle.resin_eval_queries.specs.Under.meaning_forms.declared.outgoing.Outgoing.TheVariants.{Mail}
use Rattle.resin_eval_queries.specs.Under.meaning_forms.Writes.{leave}
use Rattle.resin_eval_queries.specs.Under.meaning_forms.Programs.{evals}
use Rattle.resin_eval_queries.specs.Under.heap.declared.prelude.PreludeClass.TheVariants.{ValueError}
use Rattle.resin_eval_queries.proofs.eval_nested_lemmas.Arms.{does_no, does_yes}
use Rattle.resin_eval_queries.proofs.eval_nested_lemmas.Exits.{does_is, does_seen_exit, does_seen_unbegun}
use Rattle.resin_eval_queries.proofs.meaning_lemmas.Composition.{does_give, does_next}
use Rattle.resin_eval_queries.proofs.step_parts_lemmas.Steps.{thrown_seen}
use Rattle.std.proofs.Common.{sym, ◌∙◌}
use Rattle.resin_eval_channels.proofs.channels.Sender.leave_mail.Goals as goal

pub returns-then-not-are_one_line : goal.returns-then-not-are_one_line
returns-then-not-are_one_line g c =
    does_no _ _ _ (sym c.are_one_line.ensures ∙ c.if-not-are_one_line.true) (thrown_seen _ ValueError _ _ _ c.throw.ensures.acts _ _ _)

pub returns-in_err-context : goal.returns-in_err-context
returns-in_err-context g c =
    does_yes _ _ _ (sym c.are_one_line.ensures ∙ c.if-not-are_one_line.false) (does_seen_unbegun _ _ _ _ c.from_residual.ensures.1)

pub returns-in_err-clone : goal.returns-in_err-clone
returns-in_err-clone g c =
    does_yes _ _ _ (sym c.are_one_line.ensures ∙ c.if-not-are_one_line.false) (does_seen_unbegun _ _ _ _ c.from_residual-in_err-clone.ensures.1)

pub returns-in_err-clone-2 : goal.returns-in_err-clone-2
returns-in_err-clone-2 g c =
    does_yes _ _ _ (sym c.are_one_line.ensures ∙ c.if-not-are_one_line.false) (does_seen_unbegun _ _ _ _ c.from_residual-in_err-clone-2.ensures.1)

pub returns-in_err-text : goal.returns-in_err-text
returns-in_err-text g c =
    does_yes _ _ _ (sym c.are_one_line.ensures ∙ c.if-not-are_one_line.false) (does_seen_unbegun _ _ _ _ c.from_residual-in_err-text.ensures.1)

pub leave-requires-clause-told : goal.leave-requires-clause-told
leave-requires-clause-told g c =
    tt

pub returns-in_err-leave : goal.returns-in_err-leave
returns-in_err-leave g c =
    does_yes _ _ _ (sym c.are_one_line.ensures ∙ c.if-not-are_one_line.false) (does_seen_exit _ _ _ _ c.from_residual-in_err-leave.ensures.1 (does_is (λ i. leave (evals c.args.self.now.by.now.room) (Mail (sym c.in_ok-clone.ensures.cases i) (sym c.in_ok-clone-2.ensures.cases i)) (sym c.in_ok-context.ensures i) (sym c.in_ok-text.ensures.cases i)) c.in_err-leave.ensures))

pub returns : goal.returns
returns g c =
    does_yes _ _ _ (sym c.are_one_line.ensures ∙ c.if-not-are_one_line.false) (does_next _ _ (does_is (λ i. leave (evals c.args.self.now.by.now.room) (Mail (sym c.in_ok-clone.ensures.cases i) (sym c.in_ok-clone-2.ensures.cases i)) (sym c.in_ok-context.ensures i) (sym c.in_ok-text.ensures.cases i)) c.in_ok-leave.ensures) (does_give _ _))
