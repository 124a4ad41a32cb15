use Rattle.std.proofs.Common.{sym, arith, suc, ◌-◌, ◌∙◌}
use Rattle.resin_eval_writes.proofs.meaning_lemmas.Composition.{does_next, does_exit, does_give, leads_here}
use Rattle.resin_eval_writes.specs.Under.meaning.Runs.{done}
use Rattle.resin_eval_writes.proofs.eval_nested_lemmas.Arms.{does_yes, does_no}
use Rattle.resin_eval_statements.proofs.Turns.{leads_turn, does_went, does_went_on}
use Rattle.resin_eval_writes.specs.Under.meaning_forms.Programs.{evals}
use Rattle.resin_eval_statements.proofs.forms.Statements.while_loop.Goals as goal

pub loop-v-init : goal.loop-v-init
loop-v-init g c =
    (suc c.args.run.now.machine.ticks, omega arith, leads_here _ _)

pub returns-in_err-v : goal.returns-in_err-v
returns-in_err-v g c =
    (leads_turn _ c.loop-v.run.machine.ticks c.loop-v.invariant.0 (evals c.args.self.now.by.now.room) c.args.e.now c.args.body.now c.loop-v.invariant.1 c.loop-v.invariant.2).goes_on _ _ (does_exit _ _ _ c.from_residual.ensures.1 (c.in_err-v.ensures.does))

pub returns-then-not-truth : goal.returns-then-not-truth
returns-then-not-truth g c =
    (leads_turn _ c.loop-v.run.machine.ticks c.loop-v.invariant.0 (evals c.args.self.now.by.now.room) c.args.e.now c.args.body.now c.loop-v.invariant.1 c.loop-v.invariant.2).goes_on _ _ (does_next _ _ (c.in_ok-v.ensures.does) (does_no _ _ _ (sym c.truth.ensures ∙ c.if-not-truth.true) (does_give _ _)))

pub returns-in_err-course : goal.returns-in_err-course
returns-in_err-course g c =
    (leads_turn _ c.loop-v.run.machine.ticks c.loop-v.invariant.0 (evals c.args.self.now.by.now.room) c.args.e.now c.args.body.now c.loop-v.invariant.1 c.loop-v.invariant.2).goes_on _ _ (does_next _ _ (c.in_ok-v.ensures.does) (does_yes _ _ _ (sym c.truth.ensures ∙ c.if-not-truth.false) (does_exit _ _ _ c.from_residual-in_err-course.ensures.1 (c.in_err-course.ensures.does))))

pub returns-in-Some : goal.returns-in-Some
returns-in-Some g c =
    (leads_turn _ c.loop-v.run.machine.ticks c.loop-v.invariant.0 (evals c.args.self.now.by.now.room) c.args.e.now c.args.body.now c.loop-v.invariant.1 c.loop-v.invariant.2).goes_on _ _ (does_next _ _ (c.in_ok-v.ensures.does) (does_yes _ _ _ (sym c.truth.ensures ∙ c.if-not-truth.false) (does_next _ _ (c.in_ok-course.ensures.does) (does_went _ _ (rw c.in-Some.is at c.turn_end.ensures) (does_give _ _)))))

pub loop-v-preserved-in_default : goal.loop-v-preserved-in_default
loop-v-preserved-in_default g c =
    (c.loop-v.invariant.0 - 1, omega (arith, c.in_ok-v.ensures.spent, (done c.in_ok-course.ensures.does).goes.ticks, c.loop-v.invariant.1), record { goes_on = λ r w e. (leads_turn _ c.loop-v.run.machine.ticks c.loop-v.invariant.0 (evals c.args.self.now.by.now.room) c.args.e.now c.args.body.now c.loop-v.invariant.1 c.loop-v.invariant.2).goes_on r w (does_next _ _ (c.in_ok-v.ensures.does) (does_yes _ _ _ (sym c.truth.ensures ∙ c.if-not-truth.false) (does_next _ _ (c.in_ok-course.ensures.does) (does_went_on _ _ _ c.turn_end.ensures c.in_default.not-Some (e))))) })

pub loop-v-smaller-in_default : goal.loop-v-smaller-in_default
loop-v-smaller-in_default g c =
    omega (arith, c.in_ok-v.ensures.spent, (done c.in_ok-course.ensures.does).goes.ticks)

pub loop-v-preserved : goal.loop-v-preserved
loop-v-preserved g c =
    (c.loop-v.invariant.0 - 1, omega (arith, c.in_ok-v.ensures.spent, (done c.in_ok-course.ensures.does).goes.ticks, c.loop-v.invariant.1), record { goes_on = λ r w e. (leads_turn _ c.loop-v.run.machine.ticks c.loop-v.invariant.0 (evals c.args.self.now.by.now.room) c.args.e.now c.args.body.now c.loop-v.invariant.1 c.loop-v.invariant.2).goes_on r w (does_next _ _ (c.in_ok-v.ensures.does) (does_yes _ _ _ (sym c.truth.ensures ∙ c.if-not-truth.false) (does_next _ _ (c.in_ok-course.ensures.does) (does_went_on _ _ _ c.turn_end.ensures c.in_default.not-Some (e))))) })

pub loop-v-preserved-in_default-2 : goal.loop-v-preserved-in_default-2
loop-v-preserved-in_default-2 g c =
    (c.loop-v.invariant.0 - 1, omega (arith, c.in_ok-v.ensures.spent, (done c.in_ok-course.ensures.does).goes.ticks, c.loop-v.invariant.1), record { goes_on = λ r w e. (leads_turn _ c.loop-v.run.machine.ticks c.loop-v.invariant.0 (evals c.args.self.now.by.now.room) c.args.e.now c.args.body.now c.loop-v.invariant.1 c.loop-v.invariant.2).goes_on r w (does_next _ _ (c.in_ok-v.ensures.does) (does_yes _ _ _ (sym c.truth.ensures ∙ c.if-not-truth.false) (does_next _ _ (c.in_ok-course.ensures.does) (does_went_on _ _ _ c.turn_end.ensures c.in_default.not-Some (e))))) })

pub loop-v-preserved-in_default-3 : goal.loop-v-preserved-in_default-3
loop-v-preserved-in_default-3 g c =
    (c.loop-v.invariant.0 - 1, omega (arith, c.in_ok-v.ensures.spent, (done c.in_ok-course.ensures.does).goes.ticks, c.loop-v.invariant.1), record { goes_on = λ r w e. (leads_turn _ c.loop-v.run.machine.ticks c.loop-v.invariant.0 (evals c.args.self.now.by.now.room) c.args.e.now c.args.body.now c.loop-v.invariant.1 c.loop-v.invariant.2).goes_on r w (does_next _ _ (c.in_ok-v.ensures.does) (does_yes _ _ _ (sym c.truth.ensures ∙ c.if-not-truth.false) (does_next _ _ (c.in_ok-course.ensures.does) (does_went_on _ _ _ c.turn_end.ensures c.in_default.not-Some (e))))) })

pub loop-v-preserved-in_default-4 : goal.loop-v-preserved-in_default-4
loop-v-preserved-in_default-4 g c =
    (c.loop-v.invariant.0 - 1, omega (arith, c.in_ok-v.ensures.spent, (done c.in_ok-course.ensures.does).goes.ticks, c.loop-v.invariant.1), record { goes_on = λ r w e. (leads_turn _ c.loop-v.run.machine.ticks c.loop-v.invariant.0 (evals c.args.self.now.by.now.room) c.args.e.now c.args.body.now c.loop-v.invariant.1 c.loop-v.invariant.2).goes_on r w (does_next _ _ (c.in_ok-v.ensures.does) (does_yes _ _ _ (sym c.truth.ensures ∙ c.if-not-truth.false) (does_next _ _ (c.in_ok-course.ensures.does) (does_went_on _ _ _ c.turn_end.ensures c.in_default.not-Some (e))))) })
