-- What was read stood in front of what is left.
use Rattle.std.proofs.Common.{◌≡◌, ◌-◌, ◌≤◌, length}
use Rattle.resin_trace.specs.Records.{limit}
use Rattle.resin_serve.specs.Whole_run.{Took}
use Rattle.resin_serve.proofs.auditing.read_whole.Given as goal

abbrev pub invariant-reads : goal.invariant-reads
invariant-reads g l = record {
  told : Took (g.S.Source.left l.fn.source) (g.S.Source.left l.source) l.text;
  within : length l.text ≤ limit;
  faults : g.S.Source.faults l.source ≡ g.S.Source.faults l.fn.source;
  buf : length l.buffer ≡ 65536;
}

abbrev pub decreases-reads : goal.decreases-reads
decreases-reads g l = limit - length l.text
