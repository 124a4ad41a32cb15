use Rattle.resin_eval_nested.proofs.meaning_lemmas.Composition.{does_exit, does_give, does_next, front_number, leads_here, nothing_left}
use Rattle.resin_eval_merges.proofs.merges.Merger.ask_merges.Goals as goal

pub loop-p-init : goal.loop-p-init
loop-p-init g c =
    leads_here _ _

pub returns-in_err-answer : goal.returns-in_err-answer
returns-in_err-answer g c =
    c.loop-p.invariant.goes_on _ _ (rw (front_number c.args.policies.now c.loop-p.p-index c.loop-p-test.true) (does_exit _ _ _ c.from_residual.ensures.1 (c.in_err-answer.ensures)))

pub returns-in_err-out : goal.returns-in_err-out
returns-in_err-out g c =
    c.loop-p.invariant.goes_on _ _ (rw (front_number c.args.policies.now c.loop-p.p-index c.loop-p-test.true) (does_next _ _ (c.in_ok-answer.ensures) (does_exit _ _ _ c.from_residual-in_err-out.ensures.1 ((c.in_err-out.ensures) _ _ _))))

pub loop-p-preserved : goal.loop-p-preserved
loop-p-preserved g c =
    record { goes_on = λ r w e. c.loop-p.invariant.goes_on r w (rw (front_number c.args.policies.now c.loop-p.p-index c.loop-p-test.true) (does_next _ _ (c.in_ok-answer.ensures) (does_next _ _ ((c.in_ok-out.ensures) _ _ _) (e)))) }

pub returns : goal.returns
returns g c =
    c.loop-p.invariant.goes_on _ _ (rw (nothing_left c.args.policies.now c.loop-p.p-index c.loop-p-test.false) (does_give _ _))
