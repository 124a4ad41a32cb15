use Rattle.resin_eval_channels.proofs.eval_nested_lemmas.Arms.{does_settled}
use Rattle.resin_eval_channels.proofs.meaning_lemmas.Composition.{does_act, does_exit, does_next}
use Rattle.resin_eval_channels.proofs.step_parts_lemmas.Answered.{gives_or}
use Rattle.resin_eval_calls.proofs.imports.Importer.import.Goals as goal

pub returns-in_err-awake : goal.returns-in_err-awake
returns-in_err-awake g c =
    does_exit _ _ _ c.from_residual.ensures.1 (does_act _ _ _ _ c.in_err-awake.ensures.acts)

pub returns-in_err-name : goal.returns-in_err-name
returns-in_err-name g c =
    does_next _ _ (does_act _ _ _ _ c.in_ok-awake.ensures.acts) (does_exit _ _ _ c.from_residual-in_err-name.ensures.1 (does_settled _ _ (gives_or _ _ c.to_text-name.ensures) c.in_err-name.ensures.acts))

pub returns : goal.returns
returns g c =
    does_next _ _ (does_act _ _ _ _ c.in_ok-awake.ensures.acts) (does_next _ _ (does_settled _ _ (gives_or _ _ c.to_text-name.ensures) c.in_ok-name.ensures.acts) c.import_named.ensures)
