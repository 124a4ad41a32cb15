use Rattle.std.proofs.Common.{ap, ◌∙◌, length, ◌==◌}
use Rattle.resin_eval_calls.specs.Under.stage.Stages.{Stage}
use Rattle.resin_eval_calls.proofs.meaning_lemmas.Composition.{does_next, does_exit, does_give}
use Rattle.resin_eval_calls.proofs.eval_nested_lemmas.Arms.{does_looked, does_yes, does_no}
use Rattle.resin_interp.proofs.Buffered.{some_open}
use Rattle.resin_interp.proofs.pages.end_buffers.Goals as goal

pub returns-then-count-eq0 : goal.returns-then-count-eq0
returns-then-count-eq0 g c = does_next _ _ (does_looked _ _ (c.open_buffers-count.ensures ∙ ap (λ (s : Stage). length s.buffers) c.stage.ensures.value)) (does_yes _ _ _ (ap (λ n. n == 0) c.if-count-eq0.true) (does_give tt _))

pub returns-in_err-texts : goal.returns-in_err-texts
returns-in_err-texts g c = does_next _ _ (does_looked _ _ (c.open_buffers-count.ensures ∙ ap (λ (s : Stage). length s.buffers) c.stage.ensures.value)) (does_no _ _ _ (some_open _ c.if-count-eq0.false) (does_exit _ _ _ c.from_residual.ensures.1 (c.in_err-texts.ensures _ _ _)))

pub returns : goal.returns
returns g c = does_next _ _ (does_looked _ _ (c.open_buffers-count.ensures ∙ ap (λ (s : Stage). length s.buffers) c.stage.ensures.value)) (does_no _ _ _ (some_open _ c.if-count-eq0.false) (does_next _ _ (c.in_ok-texts.ensures _ _ _) c.leave_joined.ensures))
