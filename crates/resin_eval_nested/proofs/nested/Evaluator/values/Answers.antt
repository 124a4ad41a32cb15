use Rattle.std.proofs.Common.{ap}
use Rattle.resin_step_objects.proofs.meaning_lemmas.Composition.{does_next, does_exit, does_lost_exit, does_give, leads_here, front, nothing_left}
use Rattle.resin_eval_nested.proofs.Exits.{does_is}
use Rattle.resin_step_objects.specs.Under.meaning_forms.Programs.{evals}
use Rattle.resin_step_objects.specs.Under.meaning_forms.Calls.{values_on}
use Rattle.resin_eval_nested.proofs.nested.Evaluator.values.Goals as goal

pub loop-e-init : goal.loop-e-init
loop-e-init g c =
    rw c.new-vs.ensures (leads_here _ _)

pub returns-in_err-v : goal.returns-in_err-v
returns-in_err-v g c =
    c.loop-e.invariant.goes_on _ _ (does_is (ap (values_on (evals c.args.self.now.room) c.loop-e.vs) (front c.args.es.now c.loop-e.e-index c.e-item.result c.loop-e-test.true c.e-item.is)) (does_exit _ _ _ c.from_residual.ensures.1 (c.in_err-v.ensures.does)))

pub returns-in_err-push : goal.returns-in_err-push
returns-in_err-push g c =
    c.loop-e.invariant.goes_on _ _ (does_is (ap (values_on (evals c.args.self.now.room) c.loop-e.vs) (front c.args.es.now c.loop-e.e-index c.e-item.result c.loop-e-test.true c.e-item.is)) (does_lost_exit _ _ _ c.from_residual-in_err-push.ensures.1 (c.in_ok-v.ensures.does)))

pub loop-e-preserved : goal.loop-e-preserved
loop-e-preserved g c =
    record { goes_on = λ r w e. c.loop-e.invariant.goes_on r w (does_is (ap (values_on (evals c.args.self.now.room) c.loop-e.vs) (front c.args.es.now c.loop-e.e-index c.e-item.result c.loop-e-test.true c.e-item.is)) (does_next _ _ (c.in_ok-v.ensures.does) (rw c.in_ok-push.ensures.ok at e))) }

pub returns : goal.returns
returns g c =
    c.loop-e.invariant.goes_on _ _ (does_is (ap (values_on (evals c.args.self.now.room) c.loop-e.vs) (nothing_left c.args.es.now c.loop-e.e-index c.loop-e-test.false)) (does_give _ _))
