use Rattle.std.proofs.Common.{sym, ap, map, ◌∙◌, length}
use Rattle.resin_shadow.specs.Shadows.{places}
use Rattle.resin_step_parts.specs.Under.store.Entries.{marks}
use Rattle.resin_shadow.specs.Marks.{policies}
use Rattle.resin_step_keeping.proofs.Labelling.{labelled_is}
use Rattle.resin_step_keeping.proofs.Thaws.{marked_lost, charge_stops, charged_stops, made_lost, made_text}
use Rattle.resin_step_keeping.proofs.thawing.thaw_marked.Goals as goal

pub returns-in_err-parts : goal.returns-in_err-parts
returns-in_err-parts c = λ d b e. marked_lost d _ _ c.from_residual.ensures.1

pub returns-in_err-charge : goal.returns-in_err-charge
returns-in_err-charge c = λ d b e. charge_stops d _ _ _ _ _ (ap length (c.as_slice-policies.ensures ∙ (c.in_ok-parts.ensures.policies ∙ ap policies (sym e)))) c.in_err-charge.ensures.acts c.from_residual-in_err-charge.ensures.1

pub returns-in_err-objects : goal.returns-in_err-objects
returns-in_err-objects c = λ d b e.
    charged_stops d _ c.as_slice-policies.result.now _ _ _ _ _ (ap length (c.as_slice-policies.ensures ∙ (c.in_ok-parts.ensures.policies ∙ ap policies (sym e)))) (c.as_slice-policies.ensures ∙ (c.in_ok-parts.ensures.policies ∙ ap policies (sym e))) c.in_ok-charge.ensures.acts
    c.in_err-objects.ensures c.from_residual-in_err-objects.ensures.1

pub returns-in_err-text : goal.returns-in_err-text
returns-in_err-text c = λ d b e.
    made_lost d _ c.as_slice-policies.result.now c.in_ok-objects.objects.items _ _ _ _ (ap length (c.as_slice-policies.ensures ∙ (c.in_ok-parts.ensures.policies ∙ ap policies (sym e)))) (c.as_slice-policies.ensures ∙ (c.in_ok-parts.ensures.policies ∙ ap policies (sym e)))
    c.in_ok-charge.ensures.acts c.in_ok-objects.ensures c.from_residual-in_err-text.ensures.1

pub returns : goal.returns
returns c = λ d b e.
    made_text d _ c.as_slice-policies.result.now c.in_ok-objects.objects.items c.in_ok-text.text _ _ _ (ap length (c.as_slice-policies.ensures ∙ (c.in_ok-parts.ensures.policies ∙ ap policies (sym e)))) (c.as_slice-policies.ensures ∙ (c.in_ok-parts.ensures.policies ∙ ap policies (sym e)))
    c.in_ok-charge.ensures.acts c.in_ok-objects.ensures
    (labelled_is (λ s. s.items) c.in_ok-parts.parts.sets.items c.in_ok-parts.parts.runs.items (policies (marks d)) c.in_ok-objects.objects.items c.args.bytes.now c.args.runs.now d c.in_ok-text.text
    (c.in_ok-parts.ensures.places ∙ ap (λ v. map (places (policies v)) c.args.runs.now) (sym e)) b e (rw c.as_slice-numbers.ensures.value at c.in_ok-text.ensures))
