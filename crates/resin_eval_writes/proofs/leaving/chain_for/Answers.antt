use Rattle.resin_eval_nested.specs.Under.meaning_forms.Writes.{channel_of}
use Rattle.resin_eval_writes.proofs.WriteLemmas.{chain_asked}
use Rattle.resin_eval_nested.specs.Under.scope.Chained.{chain_of}
use Rattle.std.proofs.Common.{ap, sym, ◌∙◌}
use Rattle.resin_eval_writes.proofs.leaving.chain_for.Goals as goal

pub returns-in-Status : goal.returns-in-Status
returns-in-Status c =
    rw c.in-Status.is c.new.ensures.items

pub returns-in_ok-to_vec-in_default : goal.returns-in_ok-to_vec-in_default
returns-in_ok-to_vec-in_default c =
    c.in_ok-to_vec-in_default.ensures.items_if_clones_equal (λ x y h. h)
    ∙ (c.chain.ensures ∙ (ap (λ x. chain_of x c.chains.result.now) c.channel_of.ensures.value
    ∙ (ap (chain_of (channel_of c.args.what.now)) c.chains.ensures ∙ sym (chain_asked c.args.what.now c.args.m.now c.in_default.not-Status))))
