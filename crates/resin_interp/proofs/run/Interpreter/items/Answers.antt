use Rattle.std.proofs.Common.{sym, ap}
use Rattle.resin_eval_calls.proofs.meaning_lemmas.Composition.{does_next, does_exit, does_give, leads_here, front, nothing_left}
use Rattle.resin_eval_calls.proofs.eval_nested_lemmas.Arms.{does_settled}
use Rattle.resin_interp.proofs.Cases.{unbegun_items}
use Rattle.resin_eval_calls.proofs.eval_nested_lemmas.Exits.{does_is}
use Rattle.resin_eval_calls.specs.Under.meaning_forms.Programs.{evals}
use Rattle.resin_eval_calls.specs.Under.value.Changes.{empty}
use Rattle.resin_eval_calls.specs.Under.meaning_forms.Expressions.{items}
use Rattle.resin_interp.proofs.run.Interpreter.items.Goals as goal

pub returns-in_err-a : goal.returns-in_err-a
returns-in_err-a g c =
    unbegun_items (evals c.args.self.now.by.now.room) empty c.args.is.now c.from_residual.result c.from_residual.ensures.1

pub loop-i-init : goal.loop-i-init
loop-i-init g c =
    rw c.in_ok-a.ensures (leads_here (items (evals c.args.self.now.by.now.room) empty c.args.is.now) _)

pub returns-in_err-k : goal.returns-in_err-k
returns-in_err-k g c =
    c.loop-i.invariant.goes_on _ _ (does_is (ap (items (evals c.args.self.now.by.now.room) c.loop-i.a) (front c.args.is.now c.loop-i.i-index c.i-item.result c.loop-i-test.true c.i-item.is)) (does_exit _ _ _ c.from_residual-in_err-k.ensures.1 (c.in_err-k.ensures)))

pub returns-in_err-v : goal.returns-in_err-v
returns-in_err-v g c =
    c.loop-i.invariant.goes_on _ _ (does_is (ap (items (evals c.args.self.now.by.now.room) c.loop-i.a) (front c.args.is.now c.loop-i.i-index c.i-item.result c.loop-i-test.true c.i-item.is)) (does_next _ _ (c.in_ok-k.ensures) (does_exit _ _ _ c.from_residual-in_err-v.ensures.1 (does_is (ap (evals c.args.self.now.by.now.room).expr (sym c.get.ensures)) c.in_err-v.ensures.does))))

pub returns-in_err-key : goal.returns-in_err-key
returns-in_err-key g c =
    c.loop-i.invariant.goes_on _ _ (does_is (ap (items (evals c.args.self.now.by.now.room) c.loop-i.a) (front c.args.is.now c.loop-i.i-index c.i-item.result c.loop-i-test.true c.i-item.is)) (does_next _ _ (c.in_ok-k.ensures) (does_next _ _ (does_is (ap (evals c.args.self.now.by.now.room).expr (sym c.get.ensures)) c.in_ok-v.ensures.does) (does_exit _ _ _ c.from_residual-in_err-key.ensures.1 (c.in_err-key.ensures.turned _ _ _)))))

pub returns-in_err-a-2 : goal.returns-in_err-a-2
returns-in_err-a-2 g c =
    c.loop-i.invariant.goes_on _ _ (does_is (ap (items (evals c.args.self.now.by.now.room) c.loop-i.a) (front c.args.is.now c.loop-i.i-index c.i-item.result c.loop-i-test.true c.i-item.is)) (does_next _ _ (c.in_ok-k.ensures) (does_next _ _ (does_is (ap (evals c.args.self.now.by.now.room).expr (sym c.get.ensures)) c.in_ok-v.ensures.does) (does_next _ _ (c.in_ok-key.ensures.turned _ _ _) (does_exit _ _ _ c.from_residual-in_err-a-2.ensures.1 (does_settled _ _ c.with_entry-put.ensures c.in_err-a-2.ensures.acts))))))

pub loop-i-preserved : goal.loop-i-preserved
loop-i-preserved g c =
    record { goes_on = λ r w e. c.loop-i.invariant.goes_on r w (does_is (ap (items (evals c.args.self.now.by.now.room) c.loop-i.a) (front c.args.is.now c.loop-i.i-index c.i-item.result c.loop-i-test.true c.i-item.is)) (does_next _ _ (c.in_ok-k.ensures) (does_next _ _ (does_is (ap (evals c.args.self.now.by.now.room).expr (sym c.get.ensures)) c.in_ok-v.ensures.does) (does_next _ _ (c.in_ok-key.ensures.turned _ _ _) (does_next _ _ (does_settled _ _ c.with_entry-put.ensures c.in_ok-a-2.ensures.acts) (e)))))) }

pub returns : goal.returns
returns g c =
    c.loop-i.invariant.goes_on _ _ (does_is (ap (items (evals c.args.self.now.by.now.room) c.loop-i.a) (nothing_left c.args.is.now c.loop-i.i-index c.loop-i-test.false)) (does_give _ _))
