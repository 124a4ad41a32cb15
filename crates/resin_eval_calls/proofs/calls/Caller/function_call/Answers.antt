use Rattle.resin_eval_channels.specs.Under.meaning_forms.Programs.{evals}
use Rattle.resin_eval_calls.proofs.Calling.{function_form}
use Rattle.resin_eval_channels.proofs.eval_nested_lemmas.Exits.{does_is}
use Rattle.resin_eval_channels.proofs.meaning_lemmas.Composition.{does_exit, does_next}
use Rattle.resin_eval_calls.proofs.calls.Caller.function_call.Goals as goal

pub returns-in_err-callee : goal.returns-in_err-callee
returns-in_err-callee g c =
    does_is (function_form (evals c.args.self.now.by.now.room) _ _) (does_exit _ _ _ c.from_residual.ensures.1 ((rw (c.as_slice.ensures) at c.in_err-callee.ensures.runs) _ _ _))

pub returns-in_err-args : goal.returns-in_err-args
returns-in_err-args g c =
    does_is (function_form (evals c.args.self.now.by.now.room) _ _) (does_next _ _ ((rw (c.as_slice.ensures) at c.in_ok-callee.ensures.runs) _ _ _) (does_exit _ _ _ c.from_residual-in_err-args.ensures.1 (rw (c.as_slice-2.ensures) at c.in_err-args.ensures)))

pub call_found-requires-clause-found : goal.call_found-requires-clause-found
call_found-requires-clause-found g c =
    rw c.as_slice-3.ensures (rw (c.as_slice.ensures) at c.in_ok-callee.ensures.called)

pub returns : goal.returns
returns g c =
    does_is (function_form (evals c.args.self.now.by.now.room) _ _) (does_next _ _ ((rw (c.as_slice.ensures) at c.in_ok-callee.ensures.runs) _ _ _) (does_next _ _ (rw (c.as_slice-2.ensures) at c.in_ok-args.ensures) (rw (c.as_slice-3.ensures) at c.call_found.ensures)))
