use Rattle.resin_eval_calls.proofs.meaning_lemmas.Composition.{does_exit, does_lost_exit, does_next}
use Rattle.resin_interp.proofs.top.perform_call.Goals as goal

pub returns-in_err-callee : goal.returns-in_err-callee
returns-in_err-callee g c =
    does_exit _ _ _ c.from_residual.ensures.1 ((c.in_err-callee.ensures.runs) _ _ _)

pub returns-in_err-own : goal.returns-in_err-own
returns-in_err-own g c =
    does_lost_exit _ _ _ c.from_residual-in_err-own.ensures.1 ((c.in_ok-callee.ensures.runs) _ _ _)

pub call_found-requires-clause-found : goal.call_found-requires-clause-found
call_found-requires-clause-found g c =
    c.in_ok-callee.ensures.called

pub returns : goal.returns
returns g c =
    does_next _ _ ((c.in_ok-callee.ensures.runs) _ _ _) (rw (c.in_ok-own.ensures, c.as_slice.ensures) at c.call_found.ensures)
