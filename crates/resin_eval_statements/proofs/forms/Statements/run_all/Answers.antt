use Rattle.std.proofs.Common.{ap}
use Rattle.resin_eval_writes.proofs.meaning_lemmas.Composition.{does_next, does_exit, does_give, front, nothing_left}
use Rattle.resin_eval_writes.proofs.eval_nested_lemmas.Exits.{does_is}
use Rattle.resin_eval_writes.specs.Under.meaning_forms.Programs.{evals}
use Rattle.resin_eval_writes.specs.Under.meaning_forms.Statements.{run_all}
use Rattle.resin_eval_statements.proofs.forms.Statements.run_all.Goals as goal

pub returns-in_err-_v : goal.returns-in_err-_v
returns-in_err-_v g c =
    c.loop-e.invariant.goes_on _ _ (does_is (ap (run_all (evals c.args.self.now.by.now.room)) (front c.args.es.now c.loop-e.e-index c.e-item.result c.loop-e-test.true c.e-item.is)) (does_exit _ _ _ c.from_residual.ensures.1 (c.in_err-_v.ensures.does)))

pub loop-e-preserved : goal.loop-e-preserved
loop-e-preserved g c =
    record { goes_on = λ r w e. c.loop-e.invariant.goes_on r w (does_is (ap (run_all (evals c.args.self.now.by.now.room)) (front c.args.es.now c.loop-e.e-index c.e-item.result c.loop-e-test.true c.e-item.is)) (does_next _ _ (c.in_ok-_v.ensures.does) (e))) }

pub returns : goal.returns
returns g c =
    c.loop-e.invariant.goes_on _ _ (does_is (ap (run_all (evals c.args.self.now.by.now.room)) (nothing_left c.args.es.now c.loop-e.e-index c.loop-e-test.false)) (does_give _ _))
