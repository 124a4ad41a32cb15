use Rattle.std.proofs.Common.{ap, ◌∙◌, sym}
use Rattle.indexmap.specs.IndexSet.{insert_key}
use Rattle.resin_label.specs.Sets.{same}
use Rattle.resin_lstr.proofs.Pieces.{sets_more}
use Rattle.resin_lstr.proofs.runs.sets_once.Goals as goal

pub loop-run-preserved : goal.loop-run-preserved
loop-run-preserved c =
    c.in_ok-insert.ensures.keys
    ∙ ap (λ ks. insert_key same ks c.in_ok-clone.field-0) c.loop-run.invariant
    ∙ ap (insert_key same _) (c.in_ok-clone.ensures.cases ∙ ap (λ r. r.set) c.run-item.is)
    ∙ sym (sets_more c.args.runs.now c.loop-run.run-index c.run-item.result c.requires c.loop-run-test.true)
