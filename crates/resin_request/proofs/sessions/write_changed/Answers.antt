use Rattle.std.proofs.Common.{◌∙◌, sym}
use Rattle.resin_interp.proofs.meaning_lemmas.Composition.{does_give}
use Rattle.resin_interp.proofs.eval_nested_lemmas.Arms.{does_yes, does_no}
use Rattle.resin_request.proofs.sessions.write_changed.Goals as goal

pub returns-then-is_held : goal.returns-then-is_held
returns-then-is_held g c = λ d w. does_yes _ _ _ (rw (w.bytes_are, w.shadow_is) at (sym c.is_held.ensures ∙ c.if-is_held.true)) (does_give _ _)

pub returns : goal.returns
returns g c = λ d w. does_no _ _ _ (rw (w.bytes_are, w.shadow_is) at (sym c.is_held.ensures ∙ c.if-is_held.false)) (c.write_file.ensures d w)
