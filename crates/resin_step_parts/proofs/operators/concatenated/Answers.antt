use Rattle.resin_meaning_forms.proofs.meaning_lemmas.Composition.{does_next, does_exit}
use Rattle.resin_step_parts.proofs.Answered.{gives_or, does_computed}
use Rattle.resin_step_parts.proofs.operators.concatenated.Goals as goal

pub returns-in_err-a : goal.returns-in_err-a
returns-in_err-a c = λ f t k. does_exit _ _ _ c.from_residual.ensures.1 (does_computed _ _ (gives_or _ _ c.to_text.ensures) c.in_err-a.ensures.acts f t k)

pub returns-in_err-b : goal.returns-in_err-b
returns-in_err-b c = λ f t k. does_next _ _ (does_computed _ _ (gives_or _ _ c.to_text.ensures) c.in_ok-a.ensures.acts f t k) (does_exit _ _ _ c.from_residual-in_err-b.ensures.1 (does_computed _ _ (gives_or _ _ c.to_text-2.ensures) c.in_err-b.ensures.acts f t k))

pub returns-in_err-t : goal.returns-in_err-t
returns-in_err-t c = λ f t k. does_next _ _ (does_computed _ _ (gives_or _ _ c.to_text.ensures) c.in_ok-a.ensures.acts f t k) (does_next _ _ (does_computed _ _ (gives_or _ _ c.to_text-2.ensures) c.in_ok-b.ensures.acts f t k) (does_exit _ _ _ c.from_residual-in_err-t.ensures.1 (does_computed _ _ c.joined.ensures c.in_err-t.ensures.acts f t k)))

pub returns : goal.returns
returns c = λ f t k. does_next _ _ (does_computed _ _ (gives_or _ _ c.to_text.ensures) c.in_ok-a.ensures.acts f t k) (does_next _ _ (does_computed _ _ (gives_or _ _ c.to_text-2.ensures) c.in_ok-b.ensures.acts f t k) (does_next _ _ (does_computed _ _ c.joined.ensures c.in_ok-t.ensures.acts f t k) (c.given.ensures f t k)))
