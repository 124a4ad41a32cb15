use Rattle.std.proofs.Common.{ap, ◌∙◌, sym}
use Rattle.std.specs.Prelude.{nat_eq}
use Rattle.std.specs.List.{fold}
use Rattle.indexmap.specs.IndexSet.{insert_key}
use Rattle.resin_label.specs.Sets.{numbers}
use Rattle.resin_lstr.proofs.Pieces.{numbers_more}
use Rattle.resin_lstr.proofs.runs.numbers_once.Goals as goal

pub loop-run-preserved : goal.loop-run-preserved
loop-run-preserved c =
    c.in_ok-insert_all.ensures
    ∙ ap (λ ks. fold (insert_key nat_eq) ks c.as_slice.result.now) c.loop-run.invariant
    ∙ ap (fold (insert_key nat_eq) _) (c.as_slice.ensures.members ∙ ap (λ r. numbers r.set) c.run-item.is)
    ∙ sym (numbers_more c.args.runs.now c.loop-run.run-index c.run-item.result c.requires c.loop-run-test.true)
