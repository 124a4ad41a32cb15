use Rattle.resin_meaning_forms.proofs.meaning_lemmas.Composition.{does_act, does_exit, does_lost_exit, does_next}
use Rattle.resin_step_parts.proofs.Pure.{some_there}
use Rattle.resin_meaning_forms.specs.Under.value.Values.{value_of-tree_of}
use Rattle.resin_step_parts.proofs.statements.assign_entry.Goals as goal

pub returns-in_err-assign_key : goal.returns-in_err-assign_key
returns-in_err-assign_key c =
    some_there _ _ _ c.entry.ensures (λ f t k. does_exit _ _ _ c.from_residual.ensures.1 (c.in_err-assign_key.ensures f t k))

pub returns-in_err-v : goal.returns-in_err-v
returns-in_err-v c =
    some_there _ _ _ c.entry.ensures (λ f t k. does_lost_exit _ _ _ c.from_residual-in_err-v.ensures.1 (c.in_ok-assign_key.ensures f t k))

pub returns : goal.returns
returns c =
    some_there _ _ _ c.entry.ensures (λ f t k. does_next _ _ (c.in_ok-assign_key.ensures f t k) (rw (value_of-tree_of c.entry.result.1.now) (does_act _ f t k (rw c.in_ok-v.ensures.cases at c.assign.ensures.acts))))
