use Rattle.std.proofs.Common.{refl}
use Rattle.resin_interp.proofs.meaning_lemmas.Composition.{does_exit, does_next}
use Rattle.resin_interp.proofs.eval_nested_lemmas.Arms.{does_looked, does_settled}
use Rattle.resin_request.proofs.sessions.end_session.Goals as goal

pub returns-in_err-text : goal.returns-in_err-text
returns-in_err-text g c =
    does_exit _ _ _ c.from_residual.ensures.1
    (does_next _ _ (does_looked _ _ refl) (does_settled _ _ (rw c.session.ensures at c.text_of_value-kept.ensures) c.in_err-text.ensures.acts))

pub returns : goal.returns
returns g c =
    does_next _ _
    (does_next _ _ (does_looked _ _ refl) (does_settled _ _ (rw c.session.ensures at c.text_of_value-kept.ensures) c.in_ok-text.ensures.acts))
    c.keep_text.ensures
