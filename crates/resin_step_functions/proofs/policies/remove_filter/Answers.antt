use Rattle.resin_step_parts.specs.Under.heap.declared.prelude.PreludeClass.TheVariants.{ArgumentCountError}
use Rattle.resin_step_parts.proofs.meaning_lemmas.Composition.{does_act, does_give, does_next, does_stop}
use Rattle.resin_step_parts.proofs.Loops.{handed_seen}
use Rattle.resin_step_functions.proofs.Marks.{filter_removed, no_name_remove, throw_there}
use Rattle.resin_step_parts.specs.Under.value.Seen.{tree_of}
use Rattle.resin_step_functions.proofs.policies.remove_filter.Goals as goal

pub returns-in_default : goal.returns-in_default
returns-in_default c =
    throw_there _ ArgumentCountError _ _ _ (no_name_remove (tree_of c.args.f.now) c.args.name.now c.in_default.not-Text) c.throw.ensures.acts

pub returns-in_err-channel : goal.returns-in_err-channel
returns-in_err-channel c =
    rw c.in-Text.is (λ f t k. handed_seen tree_of _ _ c.from_residual.ensures.1 (does_stop _ _ (c.in_err-channel.ensures f t k)))

pub returns-in_err-o : goal.returns-in_err-o
returns-in_err-o c =
    rw c.in-Text.is (λ f t k. handed_seen tree_of _ _ c.from_residual-in_err-o.ensures.1 (does_next _ _ (c.in_ok-channel.ensures f t k) (does_stop _ _ (c.in_err-o.ensures f t k))))

pub returns : goal.returns
returns c =
    rw c.in-Text.is (λ f t k. does_next _ _ (c.in_ok-channel.ensures f t k) (does_next _ _ (c.in_ok-o.ensures f t k) (does_next _ _ (does_act _ f t k (filter_removed c.in_ok-channel.channel c.in_ok-o.o _ _ c.remove_filter.ensures.after c.remove_filter.ensures.inside)) (does_give _ _))))
