use Rattle.resin_eval_queries.specs.Under.meaning_forms.Channels.{channel_work}
use Rattle.resin_eval_queries.specs.Under.meaning_forms.Programs.{evals}
use Rattle.resin_eval_queries.specs.Under.meaning_forms.declared.callee.ChannelFunction.TheVariants.{ResponseCode}
use Rattle.resin_eval_queries.proofs.eval_nested_lemmas.Arguments.{empty_list, opened}
use Rattle.resin_eval_queries.proofs.eval_nested_lemmas.Exits.{does_is}
use Rattle.resin_eval_channels.proofs.Unfit.{does_unfit}
use Rattle.resin_eval_queries.specs.Under.value.Seen.{trees_of}
use Rattle.resin_eval_queries.specs.Under.value.declared.value.Value.{Value}
use Rattle.std.proofs.Common.{List, ap}
use Rattle.resin_eval_channels.proofs.channels.Sender.status_work.Goals as goal

pub returns-in-len1-up : goal.returns-in-len1-up
returns-in-len1-up g c =
    does_is (ap (λ (xs : List Value). channel_work (evals c.args.self.now.by.now.room) ResponseCode (trees_of xs)) (opened _ _ c.in-len1-up.len_at_least c.n-item.is)) c.set_status.ensures

pub returns-in-empty : goal.returns-in-empty
returns-in-empty g c =
    does_is (ap (λ (xs : List Value). channel_work (evals c.args.self.now.by.now.room) ResponseCode (trees_of xs)) (empty_list _ c.in-empty.len_below)) (does_unfit _ _ _ c.unfit.ensures)
