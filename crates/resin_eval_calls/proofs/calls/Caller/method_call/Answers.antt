use Rattle.resin_eval_channels.specs.Under.meaning_forms.Programs.{evals}
use Rattle.resin_eval_calls.proofs.Calling.{method_form}
use Rattle.resin_eval_channels.proofs.eval_nested_lemmas.Exits.{does_is}
use Rattle.resin_eval_channels.proofs.meaning_lemmas.Composition.{does_act, does_exit, does_next}
use Rattle.resin_eval_calls.proofs.calls.Caller.method_call.Goals as goal

pub returns-in_err-v : goal.returns-in_err-v
returns-in_err-v g c =
    does_is (method_form (evals c.args.self.now.by.now.room) _ _ _) (does_exit _ _ _ c.from_residual.ensures.1 (rw (c.get.ensures) at c.in_err-v.ensures.does))

pub returns-in_err-o : goal.returns-in_err-o
returns-in_err-o g c =
    does_is (method_form (evals c.args.self.now.by.now.room) _ _ _) (does_next _ _ (rw (c.get.ensures) at c.in_ok-v.ensures.does) (does_exit _ _ _ c.from_residual-in_err-o.ensures.1 ((c.in_err-o.ensures) _ _ _)))

pub returns-in_err-class : goal.returns-in_err-class
returns-in_err-class g c =
    does_is (method_form (evals c.args.self.now.by.now.room) _ _ _) (does_next _ _ (rw (c.get.ensures) at c.in_ok-v.ensures.does) (does_next _ _ ((c.in_ok-o.ensures) _ _ _) (does_exit _ _ _ c.from_residual-in_err-class.ensures.1 (does_act _ _ _ _ c.in_err-class.ensures.acts))))

pub returns-in_err-found : goal.returns-in_err-found
returns-in_err-found g c =
    does_is (method_form (evals c.args.self.now.by.now.room) _ _ _) (does_next _ _ (rw (c.get.ensures) at c.in_ok-v.ensures.does) (does_next _ _ ((c.in_ok-o.ensures) _ _ _) (does_next _ _ (does_act _ _ _ _ c.in_ok-class.ensures.acts) (does_exit _ _ _ c.from_residual-in_err-found.ensures.1 ((rw (c.as_slice.ensures) at c.in_err-found.ensures) _ _ _)))))

pub returns-in_err-args : goal.returns-in_err-args
returns-in_err-args g c =
    does_is (method_form (evals c.args.self.now.by.now.room) _ _ _) (does_next _ _ (rw (c.get.ensures) at c.in_ok-v.ensures.does) (does_next _ _ ((c.in_ok-o.ensures) _ _ _) (does_next _ _ (does_act _ _ _ _ c.in_ok-class.ensures.acts) (does_next _ _ ((rw (c.as_slice.ensures) at c.in_ok-found.ensures) _ _ _) (does_exit _ _ _ c.from_residual-in_err-args.ensures.1 (rw (c.as_slice-2.ensures) at c.in_err-args.ensures))))))

pub returns : goal.returns
returns g c =
    does_is (method_form (evals c.args.self.now.by.now.room) _ _ _) (does_next _ _ (rw (c.get.ensures) at c.in_ok-v.ensures.does) (does_next _ _ ((c.in_ok-o.ensures) _ _ _) (does_next _ _ (does_act _ _ _ _ c.in_ok-class.ensures.acts) (does_next _ _ ((rw (c.as_slice.ensures) at c.in_ok-found.ensures) _ _ _) (does_next _ _ (rw (c.as_slice-2.ensures) at c.in_ok-args.ensures) (c.run_method.ensures))))))
