use Rattle.std.proofs.Common.{◌<◌, ◌^◌, length, sym, ap, subst, ◌∙◌, rules}
use Rattle.resin_frozen.proofs.Numbers.{from_some, none_some}
use Rattle.resin_shadow.specs.Marks.{AreMarks}
use Rattle.resin_store.proofs.Lifts.{found_marks}
use Rattle.resin_store.proofs.entries.policies_of.Goals as goal

pub returns-in-Some : goal.returns-in-Some
returns-in-Some c =
    let i : length c.as_slice-bytes.result.now < 2 ^ 64 = search rules in
    let j : length c.as_slice-shadow.result.now < 2 ^ 64 = search rules in
    sym c.in-Some.is ∙ found_marks c.args.entry.now _ _ c.in_ok-runs.field-0
    (record { bytes = subst (λ xs. length xs < 2 ^ 64) c.as_slice-bytes.ensures i; shadow = subst (λ xs. length xs < 2 ^ 64) c.as_slice-shadow.ensures j })
    (ap length c.as_slice-bytes.ensures) c.as_slice-shadow.ensures (λ w e. subst AreMarks (from_some c.in-Some.runs w (sym c.in-Some.is ∙ e)) c.len.ensures.marks) c.in_ok-runs.ensures

pub returns-in-None : goal.returns-in-None
returns-in-None c =
    let i : length c.as_slice-bytes.result.now < 2 ^ 64 = search rules in
    let j : length c.as_slice-shadow.result.now < 2 ^ 64 = search rules in
    sym c.in-None.is ∙ found_marks c.args.entry.now _ _ c.in_ok-runs.field-0
    (record { bytes = subst (λ xs. length xs < 2 ^ 64) c.as_slice-bytes.ensures i; shadow = subst (λ xs. length xs < 2 ^ 64) c.as_slice-shadow.ensures j })
    (ap length c.as_slice-bytes.ensures) c.as_slice-shadow.ensures (λ w e. absurd (none_some w (sym c.in-None.is ∙ e))) c.in_ok-runs.ensures
