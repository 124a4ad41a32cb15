use Rattle.std.proofs.Common.{sym, ap, ◌∙◌}
use Rattle.resin_eval_calls.proofs.meaning_lemmas.Composition.{does_next, does_exit, does_give, front, nothing_left}
use Rattle.resin_eval_calls.proofs.eval_nested_lemmas.Arms.{does_yes, does_no}
use Rattle.resin_eval_calls.proofs.eval_nested_lemmas.Exits.{does_is}
use Rattle.resin_eval_calls.specs.Under.meaning_forms.Programs.{evals}
use Rattle.resin_eval_calls.specs.Under.meaning_forms.Expressions.{all_set}
use Rattle.resin_interp.proofs.run.Interpreter.all_set.Goals as goal

pub returns-in_err-v : goal.returns-in_err-v
returns-in_err-v g c =
    c.loop-e.invariant.goes_on _ _ (does_is (ap (all_set (evals c.args.self.now.by.now.room)) (front c.args.es.now c.loop-e.e-index c.e-item.result c.loop-e-test.true c.e-item.is)) (does_exit _ _ _ c.from_residual.ensures.1 (c.in_err-v.ensures)))

pub returns-then-is_nothing : goal.returns-then-is_nothing
returns-then-is_nothing g c =
    c.loop-e.invariant.goes_on _ _ (does_is (ap (all_set (evals c.args.self.now.by.now.room)) (front c.args.es.now c.loop-e.e-index c.e-item.result c.loop-e-test.true c.e-item.is)) (does_next _ _ (c.in_ok-v.ensures) (does_yes _ _ _ (sym c.is_nothing.ensures ∙ c.if-is_nothing.true) (does_give _ _))))

pub loop-e-preserved : goal.loop-e-preserved
loop-e-preserved g c =
    record { goes_on = λ r w e. c.loop-e.invariant.goes_on r w (does_is (ap (all_set (evals c.args.self.now.by.now.room)) (front c.args.es.now c.loop-e.e-index c.e-item.result c.loop-e-test.true c.e-item.is)) (does_next _ _ (c.in_ok-v.ensures) (does_no _ _ _ (sym c.is_nothing.ensures ∙ c.if-is_nothing.false) (e)))) }

pub returns : goal.returns
returns g c =
    c.loop-e.invariant.goes_on _ _ (does_is (ap (all_set (evals c.args.self.now.by.now.room)) (nothing_left c.args.es.now c.loop-e.e-index c.loop-e-test.false)) (does_give _ _))
