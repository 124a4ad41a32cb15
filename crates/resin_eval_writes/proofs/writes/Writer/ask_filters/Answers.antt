use Rattle.resin_eval_writes.proofs.Exits.{not_empty}
use Rattle.resin_eval_nested.proofs.meaning_lemmas.Composition.{does_exit, does_give, does_next, does_tried_as, front_number, leads_here, nothing_left}
use Rattle.resin_eval_nested.proofs.meaning_lemmas.Enclosures.{does_quietly, under_way_after}
use Rattle.std.proofs.Common.{[], refl}
use Rattle.resin_eval_writes.proofs.writes.Writer.ask_filters.Goals as goal

pub loop-f-init : goal.loop-f-init
loop-f-init g c =
    (leads_here _ _, c.requires.begun, λ e. refl)

pub returns-in_err-end-clause-does : goal.returns-in_err-end-clause-does
returns-in_err-end-clause-does g c =
    c.loop-f.invariant.0.goes_on _ _ (rw (front_number c.args.chain.now c.loop-f.f-index c.loop-f-test.true) (does_exit _ _ _ c.from_residual.ensures.1 (does_tried_as _ _ _ c.in_err-end.ensures (does_quietly _ _ _ _ _ _ c.hush-was.ensures.after c.hush-was.ensures.was c.restore.ensures c.ask_filter-came.ensures))))

pub answered-requires-clause-way : goal.answered-requires-clause-way
answered-requires-clause-way g c =
    under_way_after _ _ _ _ _ _ c.args.write [] c.hush-was.ensures.after c.hush-was.ensures.was c.restore.ensures c.ask_filter-came.ensures c.loop-f.invariant.1

pub answered-requires-clause-leaving : goal.answered-requires-clause-leaving
answered-requires-clause-leaving g c =
    c.requires.leaving

pub returns-in_err-data-clause-does : goal.returns-in_err-data-clause-does
returns-in_err-data-clause-does g c =
    c.loop-f.invariant.0.goes_on _ _ (rw (front_number c.args.chain.now c.loop-f.f-index c.loop-f-test.true) (does_next _ _ (does_tried_as _ _ _ c.in_ok-end.ensures (does_quietly _ _ _ _ _ _ c.hush-was.ensures.after c.hush-was.ensures.was c.restore.ensures c.ask_filter-came.ensures)) (does_exit _ _ _ c.from_residual-in_err-data.ensures.1 (c.in_err-data.ensures.does _ _ _))))

pub loop-f-preserved : goal.loop-f-preserved
loop-f-preserved g c =
    (record { goes_on = λ r w e. c.loop-f.invariant.0.goes_on r w (rw (front_number c.args.chain.now c.loop-f.f-index c.loop-f-test.true) (does_next _ _ (does_tried_as _ _ _ c.in_ok-end.ensures (does_quietly _ _ _ _ _ _ c.hush-was.ensures.after c.hush-was.ensures.was c.restore.ensures c.ask_filter-came.ensures)) (does_next _ _ (c.in_ok-data.ensures.does _ _ _) (e)))) }, rw c.in_ok-data.ensures.kept (under_way_after _ _ _ _ _ _ c.args.write [] c.hush-was.ensures.after c.hush-was.ensures.was c.restore.ensures c.ask_filter-came.ensures c.loop-f.invariant.1), λ e. absurd (not_empty c.args.chain.now c.loop-f.f-index c.loop-f-test.true e))

pub returns-clause-does : goal.returns-clause-does
returns-clause-does g c =
    c.loop-f.invariant.0.goes_on _ _ (rw (nothing_left c.args.chain.now c.loop-f.f-index c.loop-f-test.false) (does_give _ _))

pub returns-clause-begun : goal.returns-clause-begun
returns-clause-begun g c =
    c.loop-f.invariant.1

pub returns-clause-unasked : goal.returns-clause-unasked
returns-clause-unasked g c =
    c.loop-f.invariant.2
