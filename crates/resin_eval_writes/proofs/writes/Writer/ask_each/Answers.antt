use Rattle.resin_eval_writes.proofs.Orders.{carried_next, one_more, out_next}
use Rattle.resin_eval_writes.proofs.Prepared.{may_ask}
use Rattle.resin_eval_nested.specs.Under.machine.Leaving.{IsUnderWay}
use Rattle.resin_eval_nested.proofs.meaning_lemmas.Composition.{does_exit, does_give, does_next, does_tried_as, front_number, leads_here, nothing_left}
use Rattle.resin_eval_nested.proofs.meaning_lemmas.Enclosures.{does_quietly, under_way_after}
use Rattle.std.proofs.Common.{List, subst, ℕ}
use Rattle.std.proofs.lemmas.List.{take_all}
use Rattle.resin_eval_writes.proofs.writes.Writer.ask_each.Goals as goal

pub loop-p-init : goal.loop-p-init
loop-p-init g c =
    (leads_here _ _, c.requires.begun)

pub returns-in_err-end-clause-does : goal.returns-in_err-end-clause-does
returns-in_err-end-clause-does g c =
    c.loop-p.invariant.0.goes_on _ _ (rw (front_number c.args.policies.now c.loop-p.p-index c.loop-p-test.true) (does_exit _ _ _ c.from_residual.ensures.1 (does_tried_as _ _ _ c.in_err-end.ensures (does_quietly _ _ _ _ _ _ c.hush-was.ensures.after c.hush-was.ensures.was c.restore.ensures c.ask_policy-came.ensures))))

pub judge-requires-clause-may : goal.judge-requires-clause-may
judge-requires-clause-may g c =
    may_ask (under_way_after _ _ _ _ _ _ c.args.write _ c.hush-was.ensures.after c.hush-was.ensures.was c.restore.ensures c.ask_policy-came.ensures c.loop-p.invariant.1) (out_next _ c.args.policies.now c.loop-p.p-index c.requires.order c.loop-p-test.true)

pub judge-requires-clause-leaving : goal.judge-requires-clause-leaving
judge-requires-clause-leaving g c =
    c.requires.leaving

pub judge-requires-clause-carried : goal.judge-requires-clause-carried
judge-requires-clause-carried g c =
    carried_next _ c.args.policies.now c.loop-p.p-index c.requires.order c.loop-p-test.true

pub returns-in_err-judge-clause-does : goal.returns-in_err-judge-clause-does
returns-in_err-judge-clause-does g c =
    c.loop-p.invariant.0.goes_on _ _ (rw (front_number c.args.policies.now c.loop-p.p-index c.loop-p-test.true) (does_next _ _ (does_tried_as _ _ _ c.in_ok-end.ensures (does_quietly _ _ _ _ _ _ c.hush-was.ensures.after c.hush-was.ensures.was c.restore.ensures c.ask_policy-came.ensures)) (does_exit _ _ _ c.from_residual-in_err-judge.ensures.1 (c.in_err-judge.ensures.does _ _ _))))

pub loop-p-preserved : goal.loop-p-preserved
loop-p-preserved g c =
    (record { goes_on = λ r w e. c.loop-p.invariant.0.goes_on r w (rw (front_number c.args.policies.now c.loop-p.p-index c.loop-p-test.true) (does_next _ _ (does_tried_as _ _ _ c.in_ok-end.ensures (does_quietly _ _ _ _ _ _ c.hush-was.ensures.after c.hush-was.ensures.was c.restore.ensures c.ask_policy-came.ensures)) (does_next _ _ (c.in_ok-judge.ensures.does _ _ _) (e)))) }, rw (← one_more c.args.policies.now c.loop-p.p-index c.loop-p-test.true) (c.in_ok-judge.ensures.passed _ (under_way_after _ _ _ _ _ _ c.args.write _ c.hush-was.ensures.after c.hush-was.ensures.was c.restore.ensures c.ask_policy-came.ensures c.loop-p.invariant.1) (out_next _ c.args.policies.now c.loop-p.p-index c.requires.order c.loop-p-test.true)))

pub returns-clause-does : goal.returns-clause-does
returns-clause-does g c =
    c.loop-p.invariant.0.goes_on _ _ (rw (nothing_left c.args.policies.now c.loop-p.p-index c.loop-p-test.false) (does_give _ _))

pub returns-clause-passed : goal.returns-clause-passed
returns-clause-passed g c =
    subst (λ (ps : List ℕ). IsUnderWay c.args.write ps c.loop-p.run.machine) (take_all c.loop-p.p-index c.args.policies.now c.loop-p-test.false) c.loop-p.invariant.1
