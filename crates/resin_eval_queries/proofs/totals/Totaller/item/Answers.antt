use Rattle.resin_eval_writes.proofs.eval_nested_lemmas.Exits.{does_seen_exit}
use Rattle.resin_eval_writes.proofs.meaning_lemmas.Composition.{does_next}
use Rattle.resin_eval_queries.proofs.totals.Totaller.item.Goals as goal

pub returns-in_err-marks : goal.returns-in_err-marks
returns-in_err-marks g c = does_seen_exit _ _ _ _ c.from_residual.ensures.1 (c.in_err-marks.ensures _ _ _)

pub returns : goal.returns
returns g c = does_next _ _ (c.in_ok-marks.ensures _ _ _) c.of_marks.ensures
