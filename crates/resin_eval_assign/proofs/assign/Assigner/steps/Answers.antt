use Rattle.std.proofs.Common.{ap}
use Rattle.resin_eval_merges.proofs.meaning_lemmas.Composition.{does_next, does_exit, does_give, leads_here, front, nothing_left}
use Rattle.resin_eval_merges.proofs.eval_nested_lemmas.Exits.{does_is}
use Rattle.resin_eval_merges.specs.Under.meaning_forms.Programs.{evals}
use Rattle.resin_eval_merges.specs.Under.meaning_forms.Targets.{steps_on}
use Rattle.resin_eval_assign.proofs.assign.Assigner.steps.Goals as goal

pub loop-s-init : goal.loop-s-init
loop-s-init g c =
    rw c.new-out.ensures (leads_here _ _)

pub returns-in_err-out : goal.returns-in_err-out
returns-in_err-out g c =
    c.loop-s.invariant.goes_on _ _ (does_is (ap (steps_on (evals c.args.self.now.by.now.room) c.loop-s.out) (front c.args.path.now c.loop-s.s-index c.s-item.result c.loop-s-test.true c.s-item.is)) (does_exit _ _ _ c.from_residual.ensures.1 (c.in_err-out.ensures)))

pub loop-s-preserved : goal.loop-s-preserved
loop-s-preserved g c =
    record { goes_on = λ r w e. c.loop-s.invariant.goes_on r w (does_is (ap (steps_on (evals c.args.self.now.by.now.room) c.loop-s.out) (front c.args.path.now c.loop-s.s-index c.s-item.result c.loop-s-test.true c.s-item.is)) (does_next _ _ (c.in_ok-out.ensures) (e))) }

pub returns : goal.returns
returns g c =
    c.loop-s.invariant.goes_on _ _ (does_is (ap (steps_on (evals c.args.self.now.by.now.room) c.loop-s.out) (nothing_left c.args.path.now c.loop-s.s-index c.loop-s-test.false)) (does_give _ _))
