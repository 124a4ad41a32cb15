use Rattle.std.proofs.Common.{sym, ap}
use Rattle.resin_eval_writes.proofs.meaning_lemmas.Composition.{does_next, does_exit, does_loosely, does_give, front, nothing_left}
use Rattle.resin_eval_writes.proofs.eval_nested_lemmas.Exits.{does_is}
use Rattle.resin_eval_writes.specs.Under.meaning_forms.Programs.{evals}
use Rattle.resin_eval_writes.specs.Under.meaning_forms.Targets.{steps}
use Rattle.resin_eval_writes.specs.Under.meaning_forms.Statements.{unset_all}
use Rattle.resin_eval_statements.proofs.forms.Statements.unset_all.Goals as goal

pub returns-in_err-path : goal.returns-in_err-path
returns-in_err-path g c =
    c.loop-t.invariant.goes_on _ _ (does_is (ap (unset_all (evals c.args.self.now.by.now.room)) (front c.args.ts.now c.loop-t.t-index c.t-item.result c.loop-t-test.true c.t-item.is)) (does_exit _ _ _ c.from_residual.ensures.1 (does_is (ap (steps (evals c.args.self.now.by.now.room)) (sym c.as_slice.ensures)) c.in_err-path.ensures)))

pub returns-in_err-erase : goal.returns-in_err-erase
returns-in_err-erase g c =
    c.loop-t.invariant.goes_on _ _ (does_is (ap (unset_all (evals c.args.self.now.by.now.room)) (front c.args.ts.now c.loop-t.t-index c.t-item.result c.loop-t-test.true c.t-item.is)) (does_next _ _ (does_is (ap (steps (evals c.args.self.now.by.now.room)) (sym c.as_slice.ensures)) c.in_ok-path.ensures) (does_exit _ _ _ c.from_residual-in_err-erase.ensures.1 (does_loosely _ _ _ _ c.in_err-erase.ensures.acts))))

pub loop-t-preserved : goal.loop-t-preserved
loop-t-preserved g c =
    record { goes_on = λ r w e. c.loop-t.invariant.goes_on r w (does_is (ap (unset_all (evals c.args.self.now.by.now.room)) (front c.args.ts.now c.loop-t.t-index c.t-item.result c.loop-t-test.true c.t-item.is)) (does_next _ _ (does_is (ap (steps (evals c.args.self.now.by.now.room)) (sym c.as_slice.ensures)) c.in_ok-path.ensures) (does_next _ _ (does_loosely _ _ _ _ c.in_ok-erase.ensures.acts) (e)))) }

pub returns : goal.returns
returns g c =
    c.loop-t.invariant.goes_on _ _ (does_is (ap (unset_all (evals c.args.self.now.by.now.room)) (nothing_left c.args.ts.now c.loop-t.t-index c.loop-t-test.false)) (does_give _ _))
