use Rattle.resin_eval_queries.specs.Under.meaning_forms.Channels.{channel_work}
use Rattle.resin_eval_queries.specs.Under.meaning_forms.Programs.{evals}
use Rattle.resin_eval_queries.specs.Under.meaning_forms.declared.callee.ChannelFunction.TheVariants.{Mail}
use Rattle.resin_eval_channels.proofs.Values.{mail_more, no_short_mail, opened_thrice}
use Rattle.resin_eval_queries.proofs.eval_nested_lemmas.Exits.{does_is}
use Rattle.resin_eval_channels.proofs.Unfit.{does_unfit}
use Rattle.resin_eval_queries.specs.Under.value.Seen.{tree_of, trees_of}
use Rattle.resin_eval_queries.specs.Under.value.declared.value.Value.{Value}
use Rattle.std.proofs.Common.{List, ap, drop, ◌∙◌}
use Rattle.std.proofs.lemmas.List.{length-map}
use Rattle.resin_eval_channels.proofs.channels.Sender.mail_work.Goals as goal

pub returns-in-len3-up : goal.returns-in-len3-up
returns-in-len3-up g c =
    does_is ((ap (λ (xs : List Value). channel_work (evals c.args.self.now.by.now.room) Mail (trees_of xs)) (opened_thrice _ _ _ _ c.in-len3-up.len_at_least c.to-item.is c.subject-item.is c.message-item.is)) ∙ mail_more (evals c.args.self.now.by.now.room) (tree_of c.to-item.result) (tree_of c.subject-item.result) (tree_of c.message-item.result) (trees_of (drop 3 c.args.args.now))) c.mail_of.ensures

pub returns-in_default : goal.returns-in_default
returns-in_default g c =
    does_is (no_short_mail (evals c.args.self.now.by.now.room) (trees_of c.args.args.now) (rw (length-map) c.in_default.len_below)) (does_unfit _ _ _ c.unfit.ensures)
