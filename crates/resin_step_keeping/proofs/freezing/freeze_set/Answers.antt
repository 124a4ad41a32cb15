use Rattle.resin_step_parts.specs.Under.meaning_forms.Keeping.{frozen_policy}
use Rattle.resin_step_keeping.proofs.Answers_of.{number_more, each_done}
use Rattle.resin_step_keeping.proofs.Freezes.{number_stores, stores_handed, stores_lost}
use Rattle.resin_step_keeping.proofs.freezing.freeze_set.Goals as goal

pub loop-policy-preserved : goal.loop-policy-preserved
loop-policy-preserved c = record {
  kept = c.text_of.ensures.kept;
  texts = number_more (frozen_policy c.args.m.now) c.args.policies.now c.loop-policy.policy-index c.in_ok-text.text c.loop-policy.list c.push.new.self c.loop-policy-test.true c.loop-policy.invariant.texts c.in_ok-text.ensures.text c.in_ok-push.ensures.ok;
}

pub returns-in_err-text-clause-texts : goal.returns-in_err-text-clause-texts
returns-in_err-text-clause-texts c =
    stores_handed _ c.args.m.now.line c.in_err-text.field-0.0 _ c.from_residual.ensures.1
    (number_stores (frozen_policy c.args.m.now) c.args.policies.now c.loop-policy.policy-index c.args.m.now.line c.in_err-text.field-0.0 c.loop-policy-test.true c.in_err-text.ensures.text)

pub returns-in_err-push-clause-texts : goal.returns-in_err-push-clause-texts
returns-in_err-push-clause-texts c = stores_lost _ c.args.m.now.line _ c.from_residual-in_err-push.ensures.1

pub returns-clause-texts : goal.returns-clause-texts
returns-clause-texts c = each_done (frozen_policy c.args.m.now) c.args.policies.now c.loop-policy.policy-index c.loop-policy.list c.loop-policy-test.false c.loop-policy.invariant.texts
