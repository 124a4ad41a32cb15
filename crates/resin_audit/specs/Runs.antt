-- The lines of the runs of a text, one after another, and what is kept of them.
use Rattle.std.specs.Prelude.{ℕ, zero, suc, ◌-◌, ◌&&◌, nat_lt, nat_le, nat_eq, List, [], Option, Some, None, fold, if◌then◌else◌}
use Rattle.indexmap.specs.IndexSet.{insert_key}
use Rattle.resin_journal_file.specs.Reading.{and_then, cut, fields_of, run_of, RunRead, differs}
use Rattle.resin_audit.specs.declared.labels.RunLine.{RunLine}
use Rattle.resin_audit.specs.declared.labels.Runs.{Runs}

abbrev pub as_line : RunRead → RunLine
as_line r = record { len = r.0; policies = r.1 }

-- the run whose line stands in front, and what is behind it
abbrev pub next_line : List ℕ → Option (RunLine × List ℕ)
next_line xs = and_then (cut 10 xs) (λ l. and_then (run_of (fields_of l.0)) (λ r. Some (as_line r, l.1)))

-- no run of a text of this length
abbrev pub no_runs : ℕ → Runs
no_runs len = record { left = len; carried = []; last = None }

-- one more run, which has bytes, no more than are left, and other policies than the last
abbrev pub with_run : RunLine → Runs → Option Runs
with_run r s =
    if nat_lt 0 r.len && nat_le r.len s.left && differs s.last r.policies
    then Some (record { left = s.left - r.len; carried = fold (insert_key nat_eq) s.carried r.policies; last = Some r.policies }) else None

-- one more line
abbrev pub next_run : Runs → List ℕ → Option (Runs × List ℕ)
next_run s xs = and_then (next_line xs) (λ r. and_then (with_run r.0 s) (λ t. Some (t, r.1)))

-- so many more lines
abbrev pub next_runs : ℕ → Runs → List ℕ → Option (Runs × List ℕ)
next_runs zero s xs = Some (s, xs)
next_runs (suc n) s xs = and_then (next_run s xs) (λ r. next_runs n r.0 r.1)
