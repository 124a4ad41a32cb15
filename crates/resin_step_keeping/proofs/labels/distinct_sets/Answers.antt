use Rattle.std.proofs.Common.{◌≡◌, get_or, sym}
use Rattle.resin_step_keeping.proofs.Labelling.{get_same}
use Rattle.resin_step_keeping.proofs.MetSets.{met_begins, met_more, met_done}
use Rattle.resin_shadow.specs.Parts.{spelled_by}
use Rattle.resin_step_keeping.proofs.labels.distinct_sets.Goals as goal

pub loop-len-init : goal.loop-len-init
loop-len-init c = rw c.new-met.ensures.empty (met_begins (spelled_by c.args.sets.now c.args.runs.now))

pub loop-len-preserved : goal.loop-len-preserved
loop-len-preserved c =
    met_more c.args.sets.now c.args.runs.now c.loop-len.len-index (get_or c.args.runs.now c.loop-len.len-index (0, 0)) c.loop-len.met.keys c.meet.new.met.keys _ c.loop-len-test.true
    (get_same c.args.runs.now c.loop-len.len-index _ _ c.loop-len-test.true) c.in_ok-meet.ensures c.loop-len.invariant

pub returns : goal.returns
returns c = met_done c.args.sets.now c.args.runs.now c.loop-len.len-index c.loop-len.met.keys _ c.loop-len-test.false c.loop-len.invariant
