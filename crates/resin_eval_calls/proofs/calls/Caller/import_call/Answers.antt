use Rattle.resin_eval_channels.specs.Under.meaning_forms.Programs.{evals}
use Rattle.resin_eval_calls.proofs.Calling.{import_form}
use Rattle.resin_eval_channels.proofs.eval_nested_lemmas.Exits.{does_is}
use Rattle.resin_eval_channels.proofs.meaning_lemmas.Composition.{does_exit, does_next}
use Rattle.resin_eval_calls.proofs.calls.Caller.import_call.Goals as goal

pub returns-in_err-v : goal.returns-in_err-v
returns-in_err-v g c =
    does_is (import_form (evals c.args.self.now.by.now.room) _ _) (does_exit _ _ _ c.from_residual.ensures.1 (rw (c.get.ensures) at c.in_err-v.ensures.does))

pub returns : goal.returns
returns g c =
    does_is (import_form (evals c.args.self.now.by.now.room) _ _) (does_next _ _ (rw (c.get.ensures) at c.in_ok-v.ensures.does) c.import.ensures)
