use Rattle.resin_step_objects.proofs.meaning_lemmas.Composition.{does_exit, does_give, does_next, front, leads_here, nothing_left}
use Rattle.resin_eval_nested.proofs.nested.Evaluator.block.Goals as goal

pub loop-s-init : goal.loop-s-init
loop-s-init g c =
    leads_here _ _

pub returns-in_err-stmt : goal.returns-in_err-stmt
returns-in_err-stmt g c =
    c.loop-s.invariant.goes_on _ _ (rw (front c.args.ss.now c.loop-s.s-index c.s-item.result c.loop-s-test.true c.s-item.is) (does_exit _ _ _ c.from_residual.ensures.1 (c.in_err-stmt.ensures.does)))

pub returns-in-Break : goal.returns-in-Break
returns-in-Break g c =
    c.loop-s.invariant.goes_on _ _ (rw (front c.args.ss.now c.loop-s.s-index c.s-item.result c.loop-s-test.true c.s-item.is) (does_next _ _ (c.in_ok-stmt.ensures.does) (rw c.in-Break.is (does_give _ _))))

pub returns-in-Continue : goal.returns-in-Continue
returns-in-Continue g c =
    c.loop-s.invariant.goes_on _ _ (rw (front c.args.ss.now c.loop-s.s-index c.s-item.result c.loop-s-test.true c.s-item.is) (does_next _ _ (c.in_ok-stmt.ensures.does) (rw c.in-Continue.is (does_give _ _))))

pub returns-in-Return : goal.returns-in-Return
returns-in-Return g c =
    c.loop-s.invariant.goes_on _ _ (rw (front c.args.ss.now c.loop-s.s-index c.s-item.result c.loop-s-test.true c.s-item.is) (does_next _ _ (c.in_ok-stmt.ensures.does) (rw c.in-Return.is (does_give _ _))))

pub loop-s-preserved : goal.loop-s-preserved
loop-s-preserved g c =
    record { goes_on = λ r w e. c.loop-s.invariant.goes_on r w (rw (front c.args.ss.now c.loop-s.s-index c.s-item.result c.loop-s-test.true c.s-item.is) (does_next _ _ (c.in_ok-stmt.ensures.does) (rw c.in-Next.is e))) }

pub returns : goal.returns
returns g c =
    c.loop-s.invariant.goes_on _ _ (rw (nothing_left c.args.ss.now c.loop-s.s-index c.loop-s-test.false) (does_give _ _))
