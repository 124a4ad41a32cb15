use Rattle.resin_eval_channels.specs.Under.meaning_forms.Programs.{evals}
use Rattle.resin_eval_calls.proofs.Calling.{new_form}
use Rattle.resin_eval_channels.proofs.eval_nested_lemmas.Exits.{does_is}
use Rattle.resin_eval_channels.proofs.meaning_lemmas.Composition.{does_exit, does_next}
use Rattle.resin_eval_calls.proofs.calls.Caller.new_call.Goals as goal

pub returns-in_err-class : goal.returns-in_err-class
returns-in_err-class g c =
    does_is (new_form (evals c.args.self.now.by.now.room) _ _) (does_exit _ _ _ c.from_residual.ensures.1 ((rw (c.as_slice.ensures) at c.in_err-class.ensures) _ _ _))

pub returns-in_err-args : goal.returns-in_err-args
returns-in_err-args g c =
    does_is (new_form (evals c.args.self.now.by.now.room) _ _) (does_next _ _ ((rw (c.as_slice.ensures) at c.in_ok-class.ensures) _ _ _) (does_exit _ _ _ c.from_residual-in_err-args.ensures.1 (rw (c.as_slice-2.ensures) at c.in_err-args.ensures)))

pub returns : goal.returns
returns g c =
    does_is (new_form (evals c.args.self.now.by.now.room) _ _) (does_next _ _ ((rw (c.as_slice.ensures) at c.in_ok-class.ensures) _ _ _) (does_next _ _ (rw (c.as_slice-2.ensures) at c.in_ok-args.ensures) (c.new_object.ensures)))
