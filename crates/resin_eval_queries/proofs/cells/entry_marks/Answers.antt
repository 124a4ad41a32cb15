use Rattle.std.proofs.Common.{ap, arith, length, sym, ◌∙◌}
use Rattle.resin_eval_writes.proofs.eval_nested_lemmas.Arms.{does_faulted}
use Rattle.resin_eval_writes.proofs.eval_nested_lemmas.Exits.{does_is}
use Rattle.resin_eval_writes.proofs.meaning_lemmas.Composition.{does_give}
use Rattle.resin_eval_queries.proofs.CellLemmas.{marks_bad, marks_good, marks_long, marks_lost}
use Rattle.resin_eval_queries.proofs.cells.entry_marks.Goals as goal

pub returns-then-as_slice-gt-LONGEST : goal.returns-then-as_slice-gt-LONGEST
returns-then-as_slice-gt-LONGEST c =
    λ f t k. does_is (marks_long c.args.entry.now (omega (arith, c.if-as_slice-gt-LONGEST.true, ap length c.as_slice.ensures))) (does_faulted _ _ c.fault.ensures)

pub returns-in_err-marks : goal.returns-in_err-marks
returns-in_err-marks c = λ f t k. marks_lost _ _ c.from_residual.ensures.1

pub returns-in-Some : goal.returns-in-Some
returns-in-Some c =
    λ f t k. does_is (marks_good c.args.entry.now c.in-Some.marks (omega (arith, c.if-as_slice-gt-LONGEST.false, ap length c.as_slice.ensures)) (sym c.in-Some.is ∙ c.in_ok-marks.ensures)) (does_give _ _)

pub returns-in-None : goal.returns-in-None
returns-in-None c =
    λ f t k. does_is (marks_bad c.args.entry.now (omega (arith, c.if-as_slice-gt-LONGEST.false, ap length c.as_slice.ensures)) (sym c.in-None.is ∙ c.in_ok-marks.ensures)) (does_faulted _ _ c.fault-in-None.ensures)
