use Rattle.resin_eval_queries.specs.Under.store.Entries.{lift}
use Rattle.resin_eval_queries.proofs.eval_nested_lemmas.Arms.{does_faulted}
use Rattle.resin_eval_queries.proofs.eval_nested_lemmas.Exits.{does_is}
use Rattle.resin_eval_queries.proofs.meaning_lemmas.Composition.{does_give}
use Rattle.resin_eval_channels.specs.Held.{marked}
use Rattle.resin_eval_channels.proofs.Holding.{behind_bad, behind_both, behind_long, behind_longer, behind_lost, both_held, told_length}
use Rattle.std.proofs.Common.{ap, arith, length, sym, ◌++◌, ◌∙◌}
use Rattle.resin_eval_channels.proofs.files.behind_held.Goals as goal

pub returns-then-len-gt-LONGEST-clause-does : goal.returns-then-len-gt-LONGEST-clause-does
returns-then-len-gt-LONGEST-clause-does c =
    λ f t k. does_is (behind_long (marked c.args.new) c.args.entry.now (omega (arith, c.if-len-gt-LONGEST.true, ap length c.as_slice-len.ensures))) (does_faulted _ _ c.fault.ensures)

pub returns-in_err-marks-clause-does : goal.returns-in_err-marks-clause-does
returns-in_err-marks-clause-does c =
    λ f t k. behind_lost marked (marked c.args.new) (lift c.args.entry.now) _ c.from_residual.ensures.1

pub returns-in_default-clause-does : goal.returns-in_default-clause-does
returns-in_default-clause-does c =
    λ f t k. does_is (behind_bad (marked c.args.new) c.args.entry.now (omega (arith, c.if-len-gt-LONGEST.false, ap length c.as_slice-len.ensures)) (sym c.in_default.is ∙ c.in_ok-marks.ensures)) (does_faulted _ _ c.fault-in_default.ensures)

pub returns-then-len-gt-LONGEST-2-clause-does : goal.returns-then-len-gt-LONGEST-2-clause-does
returns-then-len-gt-LONGEST-2-clause-does c =
    λ f t k. does_is (behind_longer c.args.new c.args.entry.now c.in-Some.marks c.requires (omega (arith, c.if-len-gt-LONGEST.false, ap length c.as_slice-len.ensures)) (sym c.in-Some.is ∙ c.in_ok-marks.ensures) (omega (arith, c.if-len-gt-LONGEST-2.true, ap length c.as_slice-len.ensures, c.len.ensures))) (does_faulted _ _ c.fault-then-len-gt-LONGEST-2.ensures)

pub returns-in_err-bytes-clause-does : goal.returns-in_err-bytes-clause-does
returns-in_err-bytes-clause-does c =
    λ f t k. behind_lost marked (marked c.args.new) (lift c.args.entry.now) _ c.from_residual-in_err-bytes.ensures.1

pub append-requires : goal.append-requires
append-requires c =
    omega (arith, c.if-len-gt-LONGEST-2.false, c.requires, ap length c.as_slice-len.ensures, c.len.ensures, told_length c.args.entry.now c.in-Some.marks (sym c.in-Some.is ∙ c.in_ok-marks.ensures))

pub returns-in_err-append-clause-does : goal.returns-in_err-append-clause-does
returns-in_err-append-clause-does c =
    λ f t k. behind_lost marked (marked c.args.new) (lift c.args.entry.now) _ c.from_residual-in_err-append.ensures.1

pub returns-clause-does : goal.returns-clause-does
returns-clause-does c =
    λ f t k. does_is (behind_both c.args.new c.args.entry.now c.in-Some.marks _ c.requires (omega (arith, c.if-len-gt-LONGEST.false, ap length c.as_slice-len.ensures)) (sym c.in-Some.is ∙ c.in_ok-marks.ensures) (omega (arith, c.if-len-gt-LONGEST-2.false, ap length c.as_slice-len.ensures, c.len.ensures)) (c.in_ok-bytes.ensures ∙ (λ i. c.as_slice.ensures i ++ c.as_slice-2.ensures i)) c.in_ok-append.ensures) (does_give _ _)

pub returns-clause-held : goal.returns-clause-held
returns-clause-held c =
    both_held c.args.new c.args.entry.now c.in-Some.marks _ c.requires (sym c.in-Some.is ∙ c.in_ok-marks.ensures) (c.in_ok-bytes.ensures ∙ (λ i. c.as_slice.ensures i ++ c.as_slice-2.ensures i)) c.in_ok-append.ensures
