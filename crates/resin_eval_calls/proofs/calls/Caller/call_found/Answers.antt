use Rattle.resin_eval_calls.proofs.Seen.{values_back}
use Rattle.resin_eval_channels.proofs.meaning_lemmas.Composition.{does_exit, does_next}
use Rattle.resin_eval_calls.proofs.calls.Caller.call_found.Goals as goal

pub returns-in_err-args : goal.returns-in_err-args
returns-in_err-args g c =
    does_exit _ _ _ c.from_residual.ensures.1 (c.in_err-args.ensures)

pub returns-in-Script : goal.returns-in-Script
returns-in-Script g c =
    does_next _ _ (c.in_ok-args.ensures) (rw (c.in-Script.is, values_back c.in_ok-args.args) c.call_script.ensures)

pub builtin-requires-clause-named : goal.builtin-requires-clause-named
builtin-requires-clause-named g c =
    rw c.in-Builtin.is at c.requires.found

pub returns-in-Builtin : goal.returns-in-Builtin
returns-in-Builtin g c =
    does_next _ _ (c.in_ok-args.ensures) (rw c.in-Builtin.is c.builtin.ensures)

pub returns-in-State : goal.returns-in-State
returns-in-State g c =
    does_next _ _ (c.in_ok-args.ensures) (rw c.in-State.is c.state_function.ensures)

pub returns-in-Channel : goal.returns-in-Channel
returns-in-Channel g c =
    does_next _ _ (c.in_ok-args.ensures) (rw c.in-Channel.is c.channel_function.ensures)
