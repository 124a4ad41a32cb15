use Rattle.resin_eval_nested.proofs.Arms.{does_settled}
use Rattle.resin_eval_nested.proofs.meaning_lemmas.Composition.{does_act, does_exit, does_next}
use Rattle.resin_eval_nested.proofs.step_parts_lemmas.Answered.{gives_or}
use Rattle.resin_eval_writes.proofs.writes.Writer.echo.Goals as goal

pub returns-in_err-awake : goal.returns-in_err-awake
returns-in_err-awake g c =
    does_exit _ _ _ c.from_residual.ensures.1 (does_act _ _ _ _ c.in_err-awake.ensures.acts)

pub returns-in_err-charge_one : goal.returns-in_err-charge_one
returns-in_err-charge_one g c =
    does_next _ _ (does_act _ _ _ _ c.in_ok-awake.ensures.acts) (does_exit _ _ _ c.from_residual-in_err-charge_one.ensures.1 (does_act _ _ _ _ c.in_err-charge_one.ensures.acts))

pub returns-in_err-text : goal.returns-in_err-text
returns-in_err-text g c =
    does_next _ _ (does_act _ _ _ _ c.in_ok-awake.ensures.acts) (does_next _ _ (does_act _ _ _ _ c.in_ok-charge_one.ensures.acts) (does_exit _ _ _ c.from_residual-in_err-text.ensures.1 (does_settled _ _ (gives_or _ _ c.to_text.ensures) c.in_err-text.ensures.acts)))

pub returns : goal.returns
returns g c =
    does_next _ _ (does_act _ _ _ _ c.in_ok-awake.ensures.acts) (does_next _ _ (does_act _ _ _ _ c.in_ok-charge_one.ensures.acts) (does_next _ _ (does_settled _ _ (gives_or _ _ c.to_text.ensures) c.in_ok-text.ensures.acts) (c.write_page.ensures)))
