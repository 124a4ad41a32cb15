use Rattle.std.proofs.Common.{ap}
use Rattle.resin_eval_writes.proofs.meaning_lemmas.Composition.{does_next, leads_here, front, nothing_left}
use Rattle.resin_eval_writes.proofs.eval_nested_lemmas.Arms.{does_given, does_yes, does_no}
use Rattle.resin_eval_statements.proofs.Turns.{does_exit_as}
use Rattle.resin_eval_statements.proofs.Cases.{does_passed, does_case, no_value}
use Rattle.resin_eval_writes.proofs.eval_nested_lemmas.Exits.{does_is}
use Rattle.resin_eval_writes.specs.Under.meaning_forms.Programs.{evals}
use Rattle.resin_eval_writes.specs.Under.meaning_forms.Statements.{from_default, chosen}
use Rattle.resin_eval_statements.proofs.forms.Statements.chosen.Goals as goal

pub loop-i-init : goal.loop-i-init
loop-i-init g c =
    leads_here _ _

pub loop-i-preserved-in_default : goal.loop-i-preserved-in_default
loop-i-preserved-in_default g c =
    record { goes_on = λ r w e. c.loop-i.invariant.goes_on r w (does_is (ap (chosen (evals c.args.self.now.by.now.room) c.args.v.now (from_default c.args.cs.now)) (front c.args.cs.now c.loop-i.i c.index-cs-at.result c.loop-i-test.true c.index-cs-at.is)) (does_passed (evals c.args.self.now.by.now.room) _ _ _ _ (no_value _ (rw (← c.index-cs-at.is) at c.in_default.not-Some)) e)) }

pub returns-in_err-w : goal.returns-in_err-w
returns-in_err-w g c =
    c.loop-i.invariant.goes_on _ _ (does_is (ap (chosen (evals c.args.self.now.by.now.room) c.args.v.now (from_default c.args.cs.now)) (front c.args.cs.now c.loop-i.i c.index-cs-at.result c.loop-i-test.true c.index-cs-at.is)) (does_case (evals c.args.self.now.by.now.room) _ _ _ _ _ (rw (← c.index-cs-at.is) at c.in-Some.is) (does_exit_as _ _ _ _ c.from_residual.ensures.1 (c.in_err-w.ensures.does))))

pub returns-in_err-same : goal.returns-in_err-same
returns-in_err-same g c =
    c.loop-i.invariant.goes_on _ _ (does_is (ap (chosen (evals c.args.self.now.by.now.room) c.args.v.now (from_default c.args.cs.now)) (front c.args.cs.now c.loop-i.i c.index-cs-at.result c.loop-i-test.true c.index-cs-at.is)) (does_case (evals c.args.self.now.by.now.room) _ _ _ _ _ (rw (← c.index-cs-at.is) at c.in-Some.is) (does_next _ _ (c.in_ok-w.ensures.does) (does_exit_as _ _ _ _ c.from_residual-in_err-same.ensures.1 (c.in_err-same.ensures _ _ _)))))

pub returns-then-same : goal.returns-then-same
returns-then-same g c =
    c.loop-i.invariant.goes_on _ _ (does_is (ap (chosen (evals c.args.self.now.by.now.room) c.args.v.now (from_default c.args.cs.now)) (front c.args.cs.now c.loop-i.i c.index-cs-at.result c.loop-i-test.true c.index-cs-at.is)) (does_case (evals c.args.self.now.by.now.room) _ _ _ _ _ (rw (← c.index-cs-at.is) at c.in-Some.is) (does_next _ _ (c.in_ok-w.ensures.does) (does_next _ _ (c.in_ok-same.ensures _ _ _) (does_yes _ _ _ c.if-same.true (does_given _ _ (front c.args.cs.now c.loop-i.i c.index-cs-at.result c.loop-i-test.true c.index-cs-at.is)))))))

pub loop-i-preserved-else-same : goal.loop-i-preserved-else-same
loop-i-preserved-else-same g c =
    record { goes_on = λ r w e. c.loop-i.invariant.goes_on r w (does_is (ap (chosen (evals c.args.self.now.by.now.room) c.args.v.now (from_default c.args.cs.now)) (front c.args.cs.now c.loop-i.i c.index-cs-at.result c.loop-i-test.true c.index-cs-at.is)) (does_case (evals c.args.self.now.by.now.room) _ _ _ _ _ (rw (← c.index-cs-at.is) at c.in-Some.is) (does_next _ _ (c.in_ok-w.ensures.does) (does_next _ _ (c.in_ok-same.ensures _ _ _) (does_no _ _ _ c.if-same.false e))))) }

pub returns : goal.returns
returns g c =
    c.loop-i.invariant.goes_on _ _ (does_is (ap (chosen (evals c.args.self.now.by.now.room) c.args.v.now (from_default c.args.cs.now)) (nothing_left c.args.cs.now c.loop-i.i c.loop-i-test.false)) (does_given _ _ c.default_of.ensures))

pub loop-i-preserved : goal.loop-i-preserved
loop-i-preserved g c =
    record { goes_on = λ r w e. c.loop-i.invariant.goes_on r w (does_is (ap (chosen (evals c.args.self.now.by.now.room) c.args.v.now (from_default c.args.cs.now)) (front c.args.cs.now c.loop-i.i c.index-cs-at.result c.loop-i-test.true c.index-cs-at.is)) (does_case (evals c.args.self.now.by.now.room) _ _ _ _ _ (rw (← c.index-cs-at.is) at c.in-Some.is) (does_next _ _ (c.in_ok-w.ensures.does) (does_next _ _ (c.in_ok-same.ensures _ _ _) (does_no _ _ _ c.if-same.false e))))) }

pub loop-i-preserved-else-same-2 : goal.loop-i-preserved-else-same-2
loop-i-preserved-else-same-2 g c =
    record { goes_on = λ r w e. c.loop-i.invariant.goes_on r w (does_is (ap (chosen (evals c.args.self.now.by.now.room) c.args.v.now (from_default c.args.cs.now)) (front c.args.cs.now c.loop-i.i c.index-cs-at.result c.loop-i-test.true c.index-cs-at.is)) (does_case (evals c.args.self.now.by.now.room) _ _ _ _ _ (rw (← c.index-cs-at.is) at c.in-Some.is) (does_next _ _ (c.in_ok-w.ensures.does) (does_next _ _ (c.in_ok-same.ensures _ _ _) (does_no _ _ _ c.if-same.false e))))) }

pub loop-i-preserved-else-same-3 : goal.loop-i-preserved-else-same-3
loop-i-preserved-else-same-3 g c =
    record { goes_on = λ r w e. c.loop-i.invariant.goes_on r w (does_is (ap (chosen (evals c.args.self.now.by.now.room) c.args.v.now (from_default c.args.cs.now)) (front c.args.cs.now c.loop-i.i c.index-cs-at.result c.loop-i-test.true c.index-cs-at.is)) (does_case (evals c.args.self.now.by.now.room) _ _ _ _ _ (rw (← c.index-cs-at.is) at c.in-Some.is) (does_next _ _ (c.in_ok-w.ensures.does) (does_next _ _ (c.in_ok-same.ensures _ _ _) (does_no _ _ _ c.if-same.false e))))) }

pub loop-i-preserved-else-same-4 : goal.loop-i-preserved-else-same-4
loop-i-preserved-else-same-4 g c =
    record { goes_on = λ r w e. c.loop-i.invariant.goes_on r w (does_is (ap (chosen (evals c.args.self.now.by.now.room) c.args.v.now (from_default c.args.cs.now)) (front c.args.cs.now c.loop-i.i c.index-cs-at.result c.loop-i-test.true c.index-cs-at.is)) (does_case (evals c.args.self.now.by.now.room) _ _ _ _ _ (rw (← c.index-cs-at.is) at c.in-Some.is) (does_next _ _ (c.in_ok-w.ensures.does) (does_next _ _ (c.in_ok-same.ensures _ _ _) (does_no _ _ _ c.if-same.false e))))) }
