use Rattle.std.proofs.Common.{arith, sym, ap, ◌∙◌, length}
use Rattle.resin_step_keeping.proofs.Thaws.{too_long, good_entry, bad_entry, entry_lost}
use Rattle.resin_step_keeping.proofs.thawing.thaw_entry.Goals as goal

pub returns-then-bytes-gt-LONGEST : goal.returns-then-bytes-gt-LONGEST
returns-then-bytes-gt-LONGEST c = too_long c.args.entry.now _ _ (omega (arith, c.if-bytes-gt-LONGEST.true, ap length c.as_slice-bytes.ensures)) c.fault.ensures

pub returns-in_err-runs : goal.returns-in_err-runs
returns-in_err-runs c = entry_lost c.args.entry.now _ _ (omega (arith, c.if-bytes-gt-LONGEST.false, ap length c.as_slice-bytes.ensures)) c.from_residual.ensures.1

pub returns-in-Some : goal.returns-in-Some
returns-in-Some c =
    good_entry c.args.entry.now c.in-Some.runs _ _ _ (omega (arith, c.if-bytes-gt-LONGEST.false, ap length c.as_slice-bytes.ensures)) (sym c.in-Some.is ∙ c.in_ok-runs.ensures) (rw c.as_slice-bytes.ensures at c.thaw_marked.ensures)

pub returns-in-None : goal.returns-in-None
returns-in-None c =
    bad_entry c.args.entry.now _ _ (omega (arith, c.if-bytes-gt-LONGEST.false, ap length c.as_slice-bytes.ensures)) (sym c.in-None.is ∙ c.in_ok-runs.ensures) c.fault-in-None.ensures
