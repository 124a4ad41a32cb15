use Rattle.resin_eval_queries.specs.Under.heap.declared.prelude.PreludeClass.TheVariants.{ValueError}
use Rattle.resin_eval_queries.specs.Under.meaning_forms.Channels.{set_status}
use Rattle.resin_eval_queries.specs.Under.meaning_forms.Programs.{evals}
use Rattle.resin_eval_channels.proofs.Values.{settled_text, told_status}
use Rattle.resin_eval_queries.proofs.eval_nested_lemmas.Arms.{does_settled}
use Rattle.resin_eval_queries.proofs.eval_nested_lemmas.Exits.{does_is, does_seen_exit}
use Rattle.resin_eval_queries.proofs.meaning_lemmas.Composition.{does_next}
use Rattle.resin_eval_queries.proofs.step_parts_lemmas.Steps.{thrown_seen}
use Rattle.resin_eval_queries.proofs.step_parts_lemmas.Answered.{gives_or}
use Rattle.resin_eval_queries.specs.Under.value.Seen.{tree_of}
use Rattle.std.proofs.Common.{Option, ap, sym, ℕ, ◌∙◌}
use Rattle.resin_eval_channels.proofs.channels.Sender.set_status.Goals as goal

pub returns-in_default : goal.returns-in_default
returns-in_default g c =
    does_is (ap (λ (o : Option ℕ). set_status (evals c.args.self.now.by.now.room) o (tree_of c.args.n.now)) (sym c.status_of.ensures ∙ c.in_default.is)) (thrown_seen _ ValueError _ _ _ c.throw.ensures.acts _ _ _)

pub returns-in_err-told : goal.returns-in_err-told
returns-in_err-told g c =
    does_is (ap (λ (o : Option ℕ). set_status (evals c.args.self.now.by.now.room) o (tree_of c.args.n.now)) (sym c.status_of.ensures ∙ c.in-Some.is)) (does_seen_exit _ _ _ _ c.from_residual.ensures.1 (does_settled _ _ (gives_or _ _ c.to_text-told.ensures) c.in_err-told.ensures.acts))

pub leave_status-requires-clause-decimal : goal.leave_status-requires-clause-decimal
leave_status-requires-clause-decimal g c =
    told_status _ _ _ (sym c.in-Some.is ∙ c.status_of.ensures) (settled_text _ _ _ _ _ c.to_text-told.ensures c.in_ok-told.ensures.acts.acted)

pub returns : goal.returns
returns g c =
    does_is (ap (λ (o : Option ℕ). set_status (evals c.args.self.now.by.now.room) o (tree_of c.args.n.now)) (sym c.status_of.ensures ∙ c.in-Some.is)) (does_next _ _ (does_settled _ _ (gives_or _ _ c.to_text-told.ensures) c.in_ok-told.ensures.acts) (c.leave_status.ensures))
