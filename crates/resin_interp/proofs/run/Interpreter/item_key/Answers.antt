use Rattle.std.proofs.Common.{sym, ap}
use Rattle.resin_eval_calls.proofs.meaning_lemmas.Composition.{does_next, does_exit, does_give}
use Rattle.resin_eval_calls.proofs.eval_nested_lemmas.Exits.{does_is}
use Rattle.resin_eval_calls.specs.Under.meaning_forms.Programs.{evals}
use Rattle.resin_eval_calls.specs.Under.meaning_forms.Expressions.{item_key}
use Rattle.resin_interp.proofs.run.Interpreter.item_key.Goals as goal

pub returns-in_err-k-in-Some : goal.returns-in_err-k-in-Some
returns-in_err-k-in-Some g c =
    does_is (ap (item_key (evals c.args.self.now.by.now.room)) c.in-Some.is) (does_exit _ _ _ c.from_residual.ensures.1 (does_is (ap (evals c.args.self.now.by.now.room).expr (sym c.get.ensures)) c.in_err-k-in-Some.ensures.does))

pub returns-in_ok-k-in-Some : goal.returns-in_ok-k-in-Some
returns-in_ok-k-in-Some g c =
    does_is (ap (item_key (evals c.args.self.now.by.now.room)) c.in-Some.is) (does_next _ _ (does_is (ap (evals c.args.self.now.by.now.room).expr (sym c.get.ensures)) c.in_ok-k-in-Some.ensures.does) (does_give _ _))

pub returns-in-None : goal.returns-in-None
returns-in-None g c =
    does_is (ap (item_key (evals c.args.self.now.by.now.room)) c.in-None.is) (does_give _ _)
