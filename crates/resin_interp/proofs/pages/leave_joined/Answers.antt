use Rattle.resin_eval_calls.proofs.meaning_lemmas.Composition.{does_next, does_exit}
use Rattle.resin_eval_calls.proofs.eval_nested_lemmas.Arms.{does_settled}
use Rattle.resin_interp.proofs.pages.leave_joined.Goals as goal

pub returns-in_err-text : goal.returns-in_err-text
returns-in_err-text g c = does_exit _ _ _ c.from_residual.ensures.1 (does_settled _ _ (rw c.as_slice.ensures at c.joined_or_stop.ensures) c.in_err-text.ensures.acts)

pub returns : goal.returns
returns g c = does_next _ _ (does_settled _ _ (rw c.as_slice.ensures at c.joined_or_stop.ensures) c.in_ok-text.ensures.acts) c.write_page.ensures
