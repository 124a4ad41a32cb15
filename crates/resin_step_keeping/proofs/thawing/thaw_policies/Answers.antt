use Rattle.resin_step_keeping.proofs.Thaws.{policy_more, policy_stops, policy_lost, policies_done}
use Rattle.resin_step_parts.proofs.Steps.{leaves_here}
use Rattle.resin_step_keeping.proofs.thawing.thaw_policies.Goals as goal

pub loop-text-init : goal.loop-text-init
loop-text-init c = rw c.new-objects.ensures.items (leaves_here _ _)

pub loop-text-preserved : goal.loop-text-preserved
loop-text-preserved c =
    policy_more c.args.texts.now c.loop-text.text-index c.text-item.result c.loop-text.objects.items c.put.new.list.items c.in_ok-object.object _ _ _ c.loop-text-test.true c.text-item.is c.in_ok-put.ensures c.in_ok-object.ensures c.loop-text.invariant

pub returns-in_err-object : goal.returns-in_err-object
returns-in_err-object c =
    policy_stops (λ v. v.items) c.args.texts.now c.loop-text.text-index c.text-item.result c.loop-text.objects.items _ _ _ _ _ c.loop-text-test.true c.text-item.is c.in_err-object.ensures c.loop-text.invariant c.from_residual.ensures.1

pub returns-in_err-put : goal.returns-in_err-put
returns-in_err-put c =
    policy_lost (λ v. v.items) c.args.texts.now c.loop-text.text-index c.text-item.result c.loop-text.objects.items c.in_ok-object.object _ _ _ _ c.loop-text-test.true c.text-item.is c.in_ok-object.ensures c.loop-text.invariant c.from_residual-in_err-put.ensures.1

pub returns : goal.returns
returns c = policies_done c.args.texts.now c.loop-text.text-index c.loop-text.objects.items _ _ c.loop-text-test.false c.loop-text.invariant
