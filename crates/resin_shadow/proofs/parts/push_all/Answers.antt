use Rattle.std.proofs.Common.{map, get_or}
use Rattle.resin_shadow.specs.Runs.{marks_of}
use Rattle.resin_shadow.specs.Parts.{run_spelled}
use Rattle.resin_shadow.proofs.Tables.{kinds_same}
use Rattle.resin_shadow.proofs.Apart.{flat_next, get_same}
use Rattle.resin_shadow.proofs.parts.push_all.Goals as goal

pub loop-len-preserved : goal.loop-len-preserved
loop-len-preserved c = record {
  table = c.in_ok-push_placed.ensures.table;
  kinds = kinds_same c.loop-len.table c.push_placed.new.table c.args.kinds.now c.in_ok-push_placed.ensures.sets c.in_ok-push_placed.ensures.texts c.loop-len.invariant.kinds;
  marks = flat_next (run_spelled (map (λ k. k.set) c.args.kinds.now)) (marks_of c.args.table.now.runs.items) (marks_of c.loop-len.table.runs.items) (marks_of c.push_placed.new.table.runs.items) c.args.runs.now c.loop-len.len-index
      (get_or c.args.runs.now c.loop-len.len-index (0, 0)) c.loop-len-test.true (get_same c.args.runs.now c.loop-len.len-index (0, 0) (get_or c.args.runs.now c.loop-len.len-index (0, 0)) c.loop-len-test.true) c.loop-len.invariant.marks
      c.in_ok-push_placed.ensures.marks;
}
