-- The lines that are left go on from the runs so far as all lines do from none.
use Rattle.std.proofs.Common.{◌≡◌, ◌-◌}
use Rattle.resin_audit.specs.Runs.{no_runs, next_runs}
use Rattle.resin_audit.proofs.labels.read_runs.Given as goal

abbrev pub invariant-loop-line : goal.invariant-loop-line
invariant-loop-line l = next_runs l.count (no_runs l.len) l.fn.rest ≡ next_runs (l.count - l.line) l.runs l.rest
