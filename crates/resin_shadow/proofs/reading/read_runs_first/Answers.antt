use Rattle.std.proofs.Common.{◌-◌, ◌+◌, arith, ◌∙◌}
use Rattle.resin_shadow.specs.Runs.{marks_of}
use Rattle.resin_shadow.specs.Readers.{run_set1, run_step}
use Rattle.resin_shadow.proofs.Loops.{turn}
use Rattle.resin_shadow.proofs.reading.read_runs_first.Goals as goal

pub loop-i-preserved : goal.loop-i-preserved
loop-i-preserved c = record {
  table = c.read_run_first.ensures.table;
  reads =
      turn (run_step (run_set1 c.args.policies.now)) (c.args.count - c.loop-i._i) (c.args.count - (c.loop-i._i + 1)) (marks_of c.loop-i.table.runs.items) (marks_of c.read_run_first.new.table.runs.items) c.loop-i.rest c.read_run_first.new.rest (omega (arith, c.loop-i-test.true)) c.in_ok-read_run_first.ensures.reads
      ∙ c.loop-i.invariant.reads;
}
