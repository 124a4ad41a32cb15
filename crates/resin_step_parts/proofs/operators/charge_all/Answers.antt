use Rattle.std.proofs.Common.{ap, arith, ◌+◌, drop}
use Rattle.resin_meaning_forms.specs.Under.value.Seen.{tree_of, trees_of}
use Rattle.resin_meaning_forms.specs.Parts.{charge_text, charged}
use Rattle.resin_meaning_forms.proofs.meaning_lemmas.Composition.{does_act, does_give, does_exit, leads_here, leads_next, leads_by, front, nothing_left}
use Rattle.resin_step_parts.proofs.operators.charge_all.Goals as goal

pub loop-v-init : goal.loop-v-init
loop-v-init c = λ f t k. leads_here _ _

pub loop-v-preserved : goal.loop-v-preserved
loop-v-preserved c = λ f t k. leads_next _ (charge_text (tree_of c.v-item.result)) (λ _. charged (trees_of (drop (c.loop-v.v-index + 1) c.args.vs.now))) (leads_by _ _ _ (ap (λ xs. charged (trees_of xs)) (front c.args.vs.now c.loop-v.v-index c.v-item.result c.loop-v-test.true c.v-item.is)) (c.loop-v.invariant f t k)) (does_act _ f t k c.in_ok-charge_one.ensures.acts)

pub returns-in_err-charge_one : goal.returns-in_err-charge_one
returns-in_err-charge_one c = λ f t k. (leads_by _ _ _ (ap (λ xs. charged (trees_of xs)) (front c.args.vs.now c.loop-v.v-index c.v-item.result c.loop-v-test.true c.v-item.is)) (c.loop-v.invariant f t k)).goes_on _ _ (does_exit _ _ _ c.from_residual.ensures.1 (does_act _ f t k c.in_err-charge_one.ensures.acts))

pub returns : goal.returns
returns c = λ f t k. (leads_by _ _ _ (ap (λ xs. charged (trees_of xs)) (nothing_left c.args.vs.now c.loop-v.v-index (omega (arith, c.loop-v-test.false)))) (c.loop-v.invariant f t k)).goes_on _ _ (does_give tt _)
