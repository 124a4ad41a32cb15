use Rattle.resin_eval_writes.proofs.eval_nested_lemmas.Arms.{does_given}
use Rattle.resin_eval_writes.proofs.meaning_lemmas.Composition.{does_exit, does_lost_exit, does_next}
use Rattle.resin_eval_queries.proofs.literals.shadow_of.Goals as goal

pub returns-in_err-marks : goal.returns-in_err-marks
returns-in_err-marks c =
    λ f t k. does_exit _ _ _ c.from_residual.ensures.1 (c.in_err-marks.ensures f t k)

pub returns-in_err-shadow : goal.returns-in_err-shadow
returns-in_err-shadow c =
    λ f t k. does_lost_exit _ _ _ c.from_residual-in_err-shadow.ensures.1 (c.in_ok-marks.ensures f t k)

pub returns : goal.returns
returns c =
    λ f t k. does_next _ _ (c.in_ok-marks.ensures f t k) (does_given _ _ c.in_ok-shadow.ensures)
