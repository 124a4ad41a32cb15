use Rattle.std.proofs.Common.{sym, ap, ◌∙◌, take}
use Rattle.std.specs.BTreeSet.{insert_key}
use Rattle.std.specs.Ordering.{nat_cmp}
use Rattle.resin_shadow.specs.Printed.{rising}
use Rattle.resin_shadow.proofs.Ending.{rising_next}
use Rattle.resin_shadow.proofs.numbering.placed.Goals as goal

pub loop-number-preserved : goal.loop-number-preserved
loop-number-preserved c =
    let ns = c.as_slice-number-items.result.now in
    let i = c.loop-number.number-index in
    c.in_ok-insert.ensures.keys
    ∙ ap (λ ks. insert_key nat_cmp ks c.place_of.result) c.loop-number.invariant
    ∙ ap (insert_key nat_cmp (rising c.args.met.now.keys (take i ns))) c.place_of.ensures
    ∙ sym (rising_next c.args.met.now.keys ns i c.loop-number-test.true)
