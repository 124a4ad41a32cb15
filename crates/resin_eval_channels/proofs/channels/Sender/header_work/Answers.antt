use Rattle.resin_eval_queries.specs.Under.value.declared.value.Value.TheVariants.{Arr}
use Rattle.resin_eval_queries.specs.Under.meaning_forms.declared.outgoing.Outgoing.TheVariants.{Header as HeaderLine}
use Rattle.resin_eval_queries.specs.Under.meaning_forms.Writes.{leave}
use Rattle.resin_eval_queries.specs.Under.meaning_forms.Channels.{channel_work}
use Rattle.resin_eval_queries.specs.Under.meaning_forms.Programs.{evals}
use Rattle.resin_eval_queries.specs.Under.meaning_forms.declared.callee.ChannelFunction.TheVariants.{Header}
use Rattle.resin_eval_channels.proofs.Values.{no_header_line}
use Rattle.resin_eval_queries.proofs.eval_nested_lemmas.Arguments.{empty_list, opened_rest}
use Rattle.resin_eval_queries.proofs.eval_nested_lemmas.Exits.{does_is, does_seen_exit, does_seen_unbegun}
use Rattle.resin_eval_channels.proofs.Unfit.{does_unfit}
use Rattle.resin_eval_queries.proofs.meaning_lemmas.Composition.{does_give, does_next}
use Rattle.resin_eval_queries.specs.Under.value.Seen.{trees_of}
use Rattle.resin_eval_queries.specs.Under.value.declared.value.Value.{Value}
use Rattle.std.proofs.Common.{List, ap, sym, ◌∙◌}
use Rattle.resin_eval_channels.proofs.channels.Sender.header_work.Goals as goal

pub returns-in_default : goal.returns-in_default
returns-in_default g c =
    does_is (ap (λ (xs : List Value). channel_work (evals c.args.self.now.by.now.room) Header (trees_of xs)) (empty_list _ c.in_default.len_below)) (does_unfit _ _ _ c.unfit.ensures)

pub returns-in_default-line : goal.returns-in_default-line
returns-in_default-line g c =
    does_is ((ap (λ (xs : List Value). channel_work (evals c.args.self.now.by.now.room) Header (trees_of xs)) (opened_rest _ _ c.in-len1-up.len_at_least c.line-item.is)) ∙ no_header_line (evals c.args.self.now.by.now.room) _ _ c.in_default-line.not-Text) (does_unfit _ _ _ c.unfit-in_default-line.ensures)

pub returns-in_err-context_of : goal.returns-in_err-context_of
returns-in_err-context_of g c =
    does_is (ap (λ (xs : List Value). channel_work (evals c.args.self.now.by.now.room) Header (trees_of xs)) (opened_rest _ _ c.in-len1-up.len_at_least c.line-item.is)) (rw c.in-Text.is (does_seen_unbegun _ _ _ _ c.from_residual.ensures.1))

pub returns-in_err-line : goal.returns-in_err-line
returns-in_err-line g c =
    does_is (ap (λ (xs : List Value). channel_work (evals c.args.self.now.by.now.room) Header (trees_of xs)) (opened_rest _ _ c.in-len1-up.len_at_least c.line-item.is)) (rw c.in-Text.is (does_seen_unbegun _ _ _ _ c.from_residual-in_err-line.ensures.1))

pub leave-requires-clause-told : goal.leave-requires-clause-told
leave-requires-clause-told g c =
    tt

pub returns-in_err-leave : goal.returns-in_err-leave
returns-in_err-leave g c =
    does_is (ap (λ (xs : List Value). channel_work (evals c.args.self.now.by.now.room) Header (trees_of xs)) (opened_rest _ _ c.in-len1-up.len_at_least c.line-item.is)) (rw c.in-Text.is (does_seen_exit _ _ _ _ c.from_residual-in_err-leave.ensures.1 (does_is (λ i. leave (evals c.args.self.now.by.now.room) (HeaderLine (sym c.flag_in.ensures i)) (Arr (sym c.in_ok-context_of.ensures i)) (sym c.in_ok-line.ensures.cases i)) c.in_err-leave.ensures)))

pub returns : goal.returns
returns g c =
    does_is (ap (λ (xs : List Value). channel_work (evals c.args.self.now.by.now.room) Header (trees_of xs)) (opened_rest _ _ c.in-len1-up.len_at_least c.line-item.is)) (rw c.in-Text.is (does_next _ _ (does_is (λ i. leave (evals c.args.self.now.by.now.room) (HeaderLine (sym c.flag_in.ensures i)) (Arr (sym c.in_ok-context_of.ensures i)) (sym c.in_ok-line.ensures.cases i)) c.in_ok-leave.ensures) (does_give _ _)))
