use Rattle.resin_step_parts.proofs.meaning_lemmas.Composition.{does_next, does_stop}
use Rattle.resin_step_parts.proofs.Loops.{handed_seen}
use Rattle.resin_step_parts.specs.Under.value.Seen.{tree_of}
use Rattle.resin_step_functions.proofs.policies.add_policy.Goals as goal

pub returns-in_err-o : goal.returns-in_err-o
returns-in_err-o c =
    λ f t k. handed_seen tree_of _ _ c.from_residual.ensures.1 (does_stop _ _ (c.in_err-o.ensures f t k))

pub returns : goal.returns
returns c =
    λ f t k. does_next _ _ (c.in_ok-o.ensures f t k) (c.with_policy.ensures f t k)
