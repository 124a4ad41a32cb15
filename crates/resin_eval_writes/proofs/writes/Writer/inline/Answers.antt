use Rattle.resin_eval_nested.proofs.meaning_lemmas.Composition.{does_act, does_exit, does_lost_exit, does_next}
use Rattle.resin_eval_writes.proofs.writes.Writer.inline.Goals as goal

pub returns-in_err-awake : goal.returns-in_err-awake
returns-in_err-awake g c =
    does_exit _ _ _ c.from_residual.ensures.1 (does_act _ _ _ _ c.in_err-awake.ensures.acts)

pub returns-in_err-text : goal.returns-in_err-text
returns-in_err-text g c =
    does_lost_exit _ _ _ c.from_residual-in_err-text.ensures.1 (does_act _ _ _ _ c.in_ok-awake.ensures.acts)

pub returns : goal.returns
returns g c =
    does_next _ _ (does_act _ _ _ _ c.in_ok-awake.ensures.acts) (rw (c.in_ok-text.ensures) at c.write_page.ensures)
