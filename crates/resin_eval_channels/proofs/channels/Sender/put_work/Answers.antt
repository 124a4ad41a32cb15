use mir.Val.{SFits}
use Rattle.resin_eval_queries.specs.Under.meaning_forms.Channels.{channel_work}
use Rattle.resin_eval_queries.specs.Under.meaning_forms.Files.{put_contents}
use Rattle.resin_eval_queries.specs.Under.meaning_forms.Programs.{evals}
use Rattle.resin_eval_queries.specs.Under.meaning_forms.declared.callee.ChannelFunction.TheVariants.{FilePutContents}
use Rattle.resin_eval_queries.proofs.eval_nested_lemmas.Exits.{does_is}
use Rattle.resin_eval_channels.proofs.Unfit.{does_unfit}
use Rattle.resin_eval_channels.proofs.Values.{no_put_data, no_put_path, no_short_put, opened_twice}
use Rattle.resin_eval_queries.specs.Under.value.Seen.{trees_of}
use Rattle.resin_eval_queries.specs.Under.value.declared.value.Value.{Value}
use Rattle.std.proofs.Common.{List, ap, drop, length, rules, sym, take, w64, ◌-◌, ◌∙◌}
use Rattle.std.proofs.lemmas.Int.{to_z-of_z}
use Rattle.std.proofs.lemmas.List.{length-map}
use Rattle.resin_eval_channels.proofs.channels.Sender.put_work.Goals as goal

pub returns-in_default : goal.returns-in_default
returns-in_default g c =
    does_is (no_short_put (evals c.args.self.now.by.now.room) (trees_of c.args.args.now) (rw (length-map) c.in_default.len_below)) (does_unfit _ _ _ c.unfit.ensures)

pub returns-in_default-path : goal.returns-in_default-path
returns-in_default-path g c =
    does_is (ap (λ (xs : List Value). channel_work (evals c.args.self.now.by.now.room) FilePutContents (trees_of xs)) (opened_twice _ _ _ c.in-len2-up.len_at_least c.path-item.is c.data-item.is) ∙ no_put_path (evals c.args.self.now.by.now.room) _ _ c.in_default-path.not-Text) (does_unfit _ _ _ c.unfit-in_default-path.ensures)

pub returns-in_default-data : goal.returns-in_default-data
returns-in_default-data g c =
    does_is (ap (λ (xs : List Value). channel_work (evals c.args.self.now.by.now.room) FilePutContents (trees_of xs)) (opened_twice _ _ _ c.in-len2-up.len_at_least c.path-item.is c.data-item.is)) (rw c.in-Text.is (does_is (no_put_data (evals c.args.self.now.by.now.room) c.in-Text.path c.data-item.result (trees_of (take (length c.args.args.now - 2) (drop 2 c.args.args.now))) c.in_default-data.not-Text) (does_unfit _ _ _ c.unfit-in_default-data.ensures)))

pub returns : goal.returns
returns g c =
    let fits : SFits w64 c.flags_in.result = search rules in
    does_is (ap (λ (xs : List Value). channel_work (evals c.args.self.now.by.now.room) FilePutContents (trees_of xs)) (opened_twice _ _ _ c.in-len2-up.len_at_least c.path-item.is c.data-item.is)) (rw (c.in-Text.is, c.in-Text-data.is) (does_is (λ i. put_contents (evals c.args.self.now.by.now.room) (sym c.bytes.ensures i) c.in-Text-data.data ((sym c.flags_in.ensures ∙ sym (to_z-of_z w64 c.flags_in.result fits)) i)) c.put_contents.ensures))
