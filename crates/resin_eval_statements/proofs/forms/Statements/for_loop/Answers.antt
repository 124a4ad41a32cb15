use Rattle.std.proofs.Common.{arith, suc, ◌-◌}
use Rattle.resin_eval_writes.proofs.meaning_lemmas.Composition.{does_next, does_exit, does_give, leads_here}
use Rattle.resin_eval_writes.specs.Under.meaning.Runs.{done}
use Rattle.resin_eval_writes.proofs.eval_nested_lemmas.Arms.{does_yes, does_no}
use Rattle.resin_eval_statements.proofs.Turns.{leads_round, does_went, does_went_on}
use Rattle.resin_eval_writes.specs.Under.meaning_forms.Programs.{evals}
use Rattle.resin_eval_statements.proofs.forms.Statements.for_loop.Goals as goal

pub loop-more-init : goal.loop-more-init
loop-more-init g c =
    (suc c.args.run.now.machine.ticks, omega arith, leads_here _ _)

pub returns-in_err-more : goal.returns-in_err-more
returns-in_err-more g c =
    (leads_round _ c.loop-more.run.machine.ticks c.loop-more.invariant.0 (evals c.args.self.now.by.now.room) c.args.tests.now c.args.after.now c.args.body.now c.loop-more.invariant.1 c.loop-more.invariant.2).goes_on _ _ (does_exit _ _ _ c.from_residual.ensures.1 (c.in_err-more.ensures))

pub returns-then-not-more : goal.returns-then-not-more
returns-then-not-more g c =
    (leads_round _ c.loop-more.run.machine.ticks c.loop-more.invariant.0 (evals c.args.self.now.by.now.room) c.args.tests.now c.args.after.now c.args.body.now c.loop-more.invariant.1 c.loop-more.invariant.2).goes_on _ _ (does_next _ _ (c.in_ok-more.ensures) (does_no _ _ _ c.if-not-more.true (does_give _ _)))

pub returns-in_err-course : goal.returns-in_err-course
returns-in_err-course g c =
    (leads_round _ c.loop-more.run.machine.ticks c.loop-more.invariant.0 (evals c.args.self.now.by.now.room) c.args.tests.now c.args.after.now c.args.body.now c.loop-more.invariant.1 c.loop-more.invariant.2).goes_on _ _ (does_next _ _ (c.in_ok-more.ensures) (does_yes _ _ _ c.if-not-more.false (does_exit _ _ _ c.from_residual-in_err-course.ensures.1 (c.in_err-course.ensures.does))))

pub returns-in-Some : goal.returns-in-Some
returns-in-Some g c =
    (leads_round _ c.loop-more.run.machine.ticks c.loop-more.invariant.0 (evals c.args.self.now.by.now.room) c.args.tests.now c.args.after.now c.args.body.now c.loop-more.invariant.1 c.loop-more.invariant.2).goes_on _ _ (does_next _ _ (c.in_ok-more.ensures) (does_yes _ _ _ c.if-not-more.false (does_next _ _ (c.in_ok-course.ensures.does) (does_went _ _ (rw c.in-Some.is at c.turn_end.ensures) (does_give _ _)))))

pub returns-in_err-run_all : goal.returns-in_err-run_all
returns-in_err-run_all g c =
    (leads_round _ c.loop-more.run.machine.ticks c.loop-more.invariant.0 (evals c.args.self.now.by.now.room) c.args.tests.now c.args.after.now c.args.body.now c.loop-more.invariant.1 c.loop-more.invariant.2).goes_on _ _ (does_next _ _ (c.in_ok-more.ensures) (does_yes _ _ _ c.if-not-more.false (does_next _ _ (c.in_ok-course.ensures.does) (does_went_on _ _ _ c.turn_end.ensures c.in_default.not-Some (does_exit _ _ _ c.from_residual-in_err-run_all.ensures.1 (c.in_err-run_all.ensures))))))

pub loop-more-preserved : goal.loop-more-preserved
loop-more-preserved g c =
    (c.loop-more.invariant.0 - 1, omega (arith, (done c.in_ok-more.ensures).goes.ticks, c.in_ok-course.ensures.spent, (done c.in_ok-run_all.ensures).goes.ticks, c.loop-more.invariant.1), record { goes_on = λ r w e. (leads_round _ c.loop-more.run.machine.ticks c.loop-more.invariant.0 (evals c.args.self.now.by.now.room) c.args.tests.now c.args.after.now c.args.body.now c.loop-more.invariant.1 c.loop-more.invariant.2).goes_on r w (does_next _ _ (c.in_ok-more.ensures) (does_yes _ _ _ c.if-not-more.false (does_next _ _ (c.in_ok-course.ensures.does) (does_went_on _ _ _ c.turn_end.ensures c.in_default.not-Some (does_next _ _ (c.in_ok-run_all.ensures) (e)))))) })
