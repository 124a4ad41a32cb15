use Rattle.resin_step_parts.specs.Under.meaning_forms.Functions.{policies_of}
use Rattle.resin_step_parts.proofs.meaning_lemmas.Composition.{does_unbegun}
use Rattle.resin_step_parts.proofs.Loops.{handed_seen}
use Rattle.resin_step_functions.proofs.Marks.{listed}
use Rattle.resin_step_parts.specs.Under.value.Seen.{tree_of}
use Rattle.std.proofs.Common.{Ok}
use Rattle.resin_step_functions.proofs.policies.policy_list.Goals as goal

pub returns-in_err-set : goal.returns-in_err-set
returns-in_err-set c =
    λ f t k. handed_seen tree_of _ _ c.from_residual.ensures.1 (does_unbegun _ _)

pub returns-in_err-list : goal.returns-in_err-list
returns-in_err-list c =
    λ f t k. handed_seen tree_of _ _ c.from_residual-in_err-list.ensures.1 (listed (policies_of (tree_of c.args.v.now)) c.object_list.result _ _ _ (rw (c.as_slice.ensures.members, c.in_ok-set.ensures) at c.object_list.ensures) c.in_err-list.ensures.acts f t k)

pub returns : goal.returns
returns c =
    listed (policies_of (tree_of c.args.v.now)) c.object_list.result _ _ (Ok c.in_ok-list.list) (rw (c.as_slice.ensures.members, c.in_ok-set.ensures) at c.object_list.ensures) c.in_ok-list.ensures.acts
