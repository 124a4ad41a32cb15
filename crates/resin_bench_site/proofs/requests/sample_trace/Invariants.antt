use Rattle.std.proofs.Common.{◌≡◌, ◌+◌, ◌-◌, ◌≤◌}
use Rattle.resin_bench_site.specs.Trace.{trace_text}
use Rattle.resin_bench_site.proofs.requests.sample_trace.Given as goal

abbrev pub invariant-loop-k : goal.invariant-loop-k
invariant-loop-k l = (l.trace ≡ trace_text (l.k - 1)) × (l.k ≤ l.n + 1)
