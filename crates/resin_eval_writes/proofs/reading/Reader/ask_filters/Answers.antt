use Rattle.resin_eval_nested.proofs.meaning_lemmas.Composition.{does_exit, does_give, does_next, does_tried_as, front_number, leads_here, nothing_left}
use Rattle.resin_eval_nested.proofs.meaning_lemmas.Enclosures.{does_quietly}
use Rattle.resin_eval_writes.proofs.reading.Reader.ask_filters.Goals as goal

pub loop-f-init : goal.loop-f-init
loop-f-init g c =
    leads_here _ _

pub returns-in_err-end : goal.returns-in_err-end
returns-in_err-end g c =
    c.loop-f.invariant.goes_on _ _ (rw (front_number c.args.chain.now c.loop-f.f-index c.loop-f-test.true) (does_exit _ _ _ c.from_residual.ensures.1 (does_tried_as _ _ _ c.in_err-end.ensures (does_quietly _ _ _ _ _ _ c.hush-was.ensures.after c.hush-was.ensures.was c.restore.ensures c.ask_filter-came.ensures))))

pub returns-in_err-data : goal.returns-in_err-data
returns-in_err-data g c =
    c.loop-f.invariant.goes_on _ _ (rw (front_number c.args.chain.now c.loop-f.f-index c.loop-f-test.true) (does_next _ _ (does_tried_as _ _ _ c.in_ok-end.ensures (does_quietly _ _ _ _ _ _ c.hush-was.ensures.after c.hush-was.ensures.was c.restore.ensures c.ask_filter-came.ensures)) (does_exit _ _ _ c.from_residual-in_err-data.ensures.1 (c.in_err-data.ensures _ _ _))))

pub loop-f-preserved : goal.loop-f-preserved
loop-f-preserved g c =
    record { goes_on = λ r w e. c.loop-f.invariant.goes_on r w (rw (front_number c.args.chain.now c.loop-f.f-index c.loop-f-test.true) (does_next _ _ (does_tried_as _ _ _ c.in_ok-end.ensures (does_quietly _ _ _ _ _ _ c.hush-was.ensures.after c.hush-was.ensures.was c.restore.ensures c.ask_filter-came.ensures)) (does_next _ _ (c.in_ok-data.ensures _ _ _) (e)))) }

pub returns : goal.returns
returns g c =
    c.loop-f.invariant.goes_on _ _ (rw (nothing_left c.args.chain.now c.loop-f.f-index c.loop-f-test.false) (does_give _ _))
