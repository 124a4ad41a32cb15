use Rattle.resin_step_parts.specs.Under.heap.declared.prelude.PreludeClass.TheVariants.{ArgumentCountError}
use Rattle.resin_step_parts.proofs.meaning_lemmas.Composition.{does_act, does_give, does_next, does_stop}
use Rattle.resin_step_parts.proofs.Loops.{handed_seen}
use Rattle.resin_step_functions.proofs.Marks.{no_name_add, throw_there}
use Rattle.resin_step_parts.specs.Under.value.Seen.{tree_of}
use Rattle.resin_step_functions.proofs.policies.add_filter.Goals as goal

pub returns-in_default : goal.returns-in_default
returns-in_default c =
    throw_there _ ArgumentCountError _ _ _ (no_name_add (tree_of c.args.f.now) c.args.name.now c.in_default.not-Text) c.throw.ensures.acts

pub returns-in_err-channel : goal.returns-in_err-channel
returns-in_err-channel c =
    rw c.in-Text.is (λ f t k. handed_seen tree_of _ _ c.from_residual.ensures.1 (does_stop _ _ (c.in_err-channel.ensures f t k)))

pub returns-in_err-o : goal.returns-in_err-o
returns-in_err-o c =
    rw c.in-Text.is (λ f t k. handed_seen tree_of _ _ c.from_residual-in_err-o.ensures.1 (does_next _ _ (c.in_ok-channel.ensures f t k) (does_stop _ _ (c.in_err-o.ensures f t k))))

pub returns-in_err-add_filter : goal.returns-in_err-add_filter
returns-in_err-add_filter c =
    rw c.in-Text.is (λ f t k. handed_seen tree_of _ _ c.from_residual-in_err-add_filter.ensures.1 (does_next _ _ (c.in_ok-channel.ensures f t k) (does_next _ _ (c.in_ok-o.ensures f t k) (does_stop _ _ (does_act _ f t k c.in_err-add_filter.ensures.acts)))))

pub returns : goal.returns
returns c =
    rw c.in-Text.is (λ f t k. does_next _ _ (c.in_ok-channel.ensures f t k) (does_next _ _ (c.in_ok-o.ensures f t k) (does_next _ _ (does_act _ f t k c.in_ok-add_filter.ensures.acts) (does_give _ _))))
