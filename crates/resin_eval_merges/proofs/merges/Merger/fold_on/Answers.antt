use Rattle.resin_eval_nested.proofs.meaning_lemmas.Composition.{does_exit, does_give, does_next, front, leads_here, nothing_left}
use Rattle.resin_eval_merges.proofs.merges.Merger.fold_on.Goals as goal

pub loop-set-init : goal.loop-set-init
loop-set-init g c =
    leads_here _ _

pub returns-in_err-both : goal.returns-in_err-both
returns-in_err-both g c =
    c.loop-set.invariant.goes_on _ _ (rw (front c.args.sets.now c.loop-set.set-index c.set-item.result c.loop-set-test.true c.set-item.is) (does_exit _ _ _ c.from_residual.ensures.1 (c.in_err-both.ensures)))

pub loop-set-preserved : goal.loop-set-preserved
loop-set-preserved g c =
    record { goes_on = λ r w e. c.loop-set.invariant.goes_on r w (rw (front c.args.sets.now c.loop-set.set-index c.set-item.result c.loop-set-test.true c.set-item.is) (does_next _ _ (c.in_ok-both.ensures) (e))) }

pub returns : goal.returns
returns g c =
    c.loop-set.invariant.goes_on _ _ (rw (nothing_left c.args.sets.now c.loop-set.set-index c.loop-set-test.false) (does_give _ _))
