-- What is still to be read, behind what was, is what was to be read.
use Rattle.std.proofs.Common.{◌≡◌, ◌-◌, [], map}
use Rattle.resin_shadow.specs.Marks.{Each}
use Rattle.resin_shadow.specs.Runs.{IsTable, IsKindOf, marks_of}
use Rattle.resin_shadow.specs.Readers.{times, run_set2, run_step}
use Rattle.resin_shadow.proofs.reading.read_runs_second.Given as goal

abbrev pub invariant-loop-i : goal.invariant-loop-i
invariant-loop-i l = record {
  table : IsTable l.table;
  kinds : Each (IsKindOf l.table) l.kinds;
  none : IsKindOf l.table l.none;
  empty : l.none.set ≡ [];
  reads : times (run_step (run_set2 (map (λ k. k.set) l.kinds))) (l.count - l._i) (marks_of l.table.runs.items) l.rest ≡ times (run_step (run_set2 (map (λ k. k.set) l.kinds))) l.count (marks_of l.initial.table.runs.items) l.initial.rest;
}
