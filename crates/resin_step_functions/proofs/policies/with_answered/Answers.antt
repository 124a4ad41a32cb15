use Rattle.resin_step_parts.proofs.meaning_lemmas.Composition.{does_unbegun_exit}
use Rattle.resin_step_functions.proofs.Marks.{answer_kept, answer_refused, answer_spoiled, carried_more, policy_more}
use Rattle.std.proofs.Common.{arith, ◌-◌}
use Rattle.resin_step_functions.proofs.policies.with_answered.Goals as goal

pub returns-in_default : goal.returns-in_default
returns-in_default c =
    answer_refused c.args.so_far c.args.answer.now c.args.m.now _ c.in_default.not-Arr c.fault.ensures

pub returns-then-not-is_object_under : goal.returns-then-not-is_object_under
returns-then-not-is_object_under c =
    rw c.in-Arr.is (answer_spoiled c.args.so_far c.in-Arr.a (c.loop-i.i - 1) _ _ c.args.m.now c.is_object_under.result _ c.entry.ensures c.is_object_under.ensures (cc c.if-not-is_object_under.true) c.fault-then-not-is_object_under.ensures)

pub returns-in_err-out : goal.returns-in_err-out
returns-in_err-out c =
    λ f t k. does_unbegun_exit _ _ _ c.from_residual.ensures.1

pub loop-i-preserved : goal.loop-i-preserved
loop-i-preserved c =
    record { within = omega (arith, c.loop-i.invariant.within); fit = policy_more c.in-Arr.a.entries c.loop-i.i (c.loop-i.i - 1) _ _ c.args.m.now c.is_object_under.result (omega (arith, c.loop-i-test.true)) c.entry.ensures c.is_object_under.ensures (cc c.if-not-is_object_under.false) c.loop-i.invariant.fit; made = carried_more c.in-Arr.a.entries c.loop-i.i (c.loop-i.i - 1) _ _ c.args.m.now c.is_object_under.result c.args.so_far c.loop-i.out _ c.number_in.result (omega (arith, c.loop-i-test.true)) c.entry.ensures c.is_object_under.ensures (cc c.if-not-is_object_under.false) c.number_in.ensures c.in_ok-out.ensures c.loop-i.invariant.made }

pub returns : goal.returns
returns c =
    rw c.in-Arr.is (answer_kept c.args.so_far c.loop-i.out c.in-Arr.a c.loop-i.i c.args.m.now (omega (arith, c.loop-i-test.false)) c.loop-i.invariant.fit c.loop-i.invariant.made)
