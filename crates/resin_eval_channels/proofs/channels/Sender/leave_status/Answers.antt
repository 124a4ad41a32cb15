use Rattle.resin_eval_queries.specs.Under.label.Sets.{empty as no_labels}
use Rattle.resin_eval_queries.specs.Under.value.Trees.{integer}
use mir.Val.{SFits}
use Rattle.std.proofs.lemmas.Int.{to_z-of_z}
use Rattle.resin_eval_queries.proofs.eval_nested_lemmas.Arms.{does_given, does_looked}
use Rattle.resin_eval_queries.proofs.eval_nested_lemmas.Exits.{does_seen_exit, does_seen_unbegun}
use Rattle.resin_eval_queries.proofs.meaning_lemmas.Composition.{does_next}
use Rattle.resin_eval_queries.specs.Under.value.Seen.{tree_of}
use Rattle.std.proofs.Common.{ap, rules, w64, ℤ, ◌∙◌}
use Rattle.resin_eval_channels.proofs.channels.Sender.leave_status.Goals as goal

pub returns-in_err-context_of : goal.returns-in_err-context_of
returns-in_err-context_of g c =
    does_seen_unbegun _ _ _ _ c.from_residual.ensures.1

pub leave-requires-clause-told : goal.leave-requires-clause-told
leave-requires-clause-told g c =
    c.requires.decimal

pub returns-in_err-leave : goal.returns-in_err-leave
returns-in_err-leave g c =
    does_next _ _ (does_looked _ _ (rw c.stage.ensures.value at c.status-was.ensures)) (does_seen_exit _ _ _ _ c.from_residual-in_err-leave.ensures.1 (rw ((c.in_ok-context_of.ensures)) at c.in_err-leave.ensures))

pub returns : goal.returns
returns g c =
    let f0 : SFits w64 c.from.result = search rules in
    does_next _ _ (does_looked _ _ (rw c.stage.ensures.value at c.status-was.ensures)) (does_next _ _ (rw ((c.in_ok-context_of.ensures)) at c.in_ok-leave.ensures) (does_given _ _ (ap tree_of c.number.ensures ∙ ap (λ (n : ℤ). integer n no_labels) (to_z-of_z w64 c.from.result f0 ∙ c.from.ensures))))
