-- What is still to be read, behind what was, is what was to be read.
use Rattle.std.proofs.Common.{◌≡◌, ◌-◌}
use Rattle.resin_shadow.specs.Runs.{IsTable, marks_of}
use Rattle.resin_shadow.specs.Readers.{times, run_set1, run_step}
use Rattle.resin_shadow.proofs.reading.read_runs_first.Given as goal

abbrev pub invariant-loop-i : goal.invariant-loop-i
invariant-loop-i l = record {
  table : IsTable l.table;
  reads : times (run_step (run_set1 l.policies)) (l.count - l._i) (marks_of l.table.runs.items) l.rest ≡ times (run_step (run_set1 l.policies)) l.count (marks_of l.initial.table.runs.items) l.initial.rest;
}
