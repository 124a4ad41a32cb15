use Rattle.resin_eval_queries.specs.Under.meaning_forms.Channels.{channel_work}
use Rattle.resin_eval_queries.specs.Under.meaning_forms.Programs.{evals}
use Rattle.resin_eval_queries.specs.Under.meaning_forms.declared.callee.ChannelFunction.TheVariants.{FileExists}
use Rattle.resin_eval_queries.proofs.eval_nested_lemmas.Arguments.{empty_list, opened}
use Rattle.resin_eval_queries.proofs.eval_nested_lemmas.Exits.{does_is}
use Rattle.resin_eval_channels.proofs.Unfit.{does_unfit}
use Rattle.resin_eval_channels.proofs.Values.{no_exists}
use Rattle.resin_eval_queries.specs.Under.value.Seen.{trees_of}
use Rattle.resin_eval_queries.specs.Under.value.declared.value.Value.{Value}
use Rattle.std.proofs.Common.{List, ap, ◌∙◌}
use Rattle.resin_eval_channels.proofs.channels.Sender.exists_work.Goals as goal

pub returns-in_default : goal.returns-in_default
returns-in_default g c =
    does_is (ap (λ (xs : List Value). channel_work (evals c.args.self.now.by.now.room) FileExists (trees_of xs)) (empty_list _ c.in_default.len_below)) (does_unfit _ _ _ c.unfit.ensures)

pub returns-in_default-path : goal.returns-in_default-path
returns-in_default-path g c =
    does_is (ap (λ (xs : List Value). channel_work (evals c.args.self.now.by.now.room) FileExists (trees_of xs)) (opened _ _ c.in-len1-up.len_at_least c.path-item.is) ∙ no_exists (evals c.args.self.now.by.now.room) _ _ c.in_default-path.not-Text) (does_unfit _ _ _ c.unfit-in_default-path.ensures)

pub returns : goal.returns
returns g c =
    does_is (ap (λ (xs : List Value). channel_work (evals c.args.self.now.by.now.room) FileExists (trees_of xs)) (opened _ _ c.in-len1-up.len_at_least c.path-item.is)) (rw c.in-Text.is (rw c.bytes.ensures at c.exists.ensures))
