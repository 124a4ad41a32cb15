use Rattle.std.proofs.Common.{ap, length, ◌∙◌}
use Rattle.resin_step_keeping.proofs.MetSets.{sets_charge_stops, sets_lost, sets_made, sets_met, sets_stop, sets_unbegun}
use Rattle.resin_step_keeping.proofs.thawing.thaw_sets.Goals as goal

pub returns-in_err-parts : goal.returns-in_err-parts
returns-in_err-parts c = sets_unbegun (λ v. v.items) c.args.runs.now _ _ c.from_residual.ensures.1

pub returns-in_err-charge : goal.returns-in_err-charge
returns-in_err-charge c = sets_charge_stops (λ v. v.items) c.args.runs.now _ _ _ _ _ (ap length (c.as_slice-policies.ensures ∙ c.in_ok-parts.ensures.policies)) c.in_err-charge.ensures.acts c.from_residual-in_err-charge.ensures.1

pub returns-in_err-objects : goal.returns-in_err-objects
returns-in_err-objects c =
    sets_stop (λ v. v.items) c.args.runs.now _ c.as_slice-policies.result.now _ _ _ _ _ (ap length (c.as_slice-policies.ensures ∙ c.in_ok-parts.ensures.policies)) (c.as_slice-policies.ensures ∙ c.in_ok-parts.ensures.policies) c.in_ok-charge.ensures.acts c.in_err-objects.ensures c.from_residual-in_err-objects.ensures.1

pub returns-in_err-sets : goal.returns-in_err-sets
returns-in_err-sets c =
    sets_lost (λ v. v.items) c.args.runs.now _ c.as_slice-policies.result.now c.in_ok-objects.objects.items _ _ _ _ (ap length (c.as_slice-policies.ensures ∙ c.in_ok-parts.ensures.policies)) (c.as_slice-policies.ensures ∙ c.in_ok-parts.ensures.policies) c.in_ok-charge.ensures.acts c.in_ok-objects.ensures c.from_residual-in_err-sets.ensures.1

pub returns : goal.returns
returns c =
    sets_made c.args.runs.now _ c.as_slice-policies.result.now c.in_ok-objects.objects.items c.in_ok-sets.sets.items _ _ _ (ap length (c.as_slice-policies.ensures ∙ c.in_ok-parts.ensures.policies)) (c.as_slice-policies.ensures ∙ c.in_ok-parts.ensures.policies) c.in_ok-charge.ensures.acts c.in_ok-objects.ensures
    (sets_met (λ s. s.items) c.in_ok-parts.parts.sets.items c.in_ok-parts.parts.runs.items c.in_ok-objects.objects.items c.args.runs.now c.in_ok-sets.sets.items (c.in_ok-parts.ensures.places) (rw c.as_slice.ensures.value at c.in_ok-sets.ensures))
