use Rattle.std.proofs.Common.{◌≡◌, ◌-◌, ap, ◌∙◌, arith}
use Rattle.resin_bench_site.specs.Trace.{trace_text}
use Rattle.resin_bench_site.proofs.Counting.{trace_grown}
use Rattle.resin_bench_site.proofs.Good.{made_good}
use Rattle.resin_bench_site.proofs.requests.sample_trace.Goals as goal
use Rattle.resin_bench_site.proofs.requests.sample_trace.Goals.{else-loop-k-test, then-loop-k-test+in_ok-push_records+else-k-n}

pub loop-k-init : goal.loop-k-init
unfolding trace_text
loop-k-init c = (c.new-trace.ensures, omega arith)

pub loop-k-preserved : goal.loop-k-preserved
loop-k-preserved c =
    (trace_grown c.loop-k.k _ c.loop-k.trace c.push_records.new.trace c.loop-k.auto.k c.loop-k.invariant.0 c.in_ok-push_records.ensures (omega arith), omega arith)

pub returns-clause-text : goal.returns-clause-text
returns-clause-text c =
    elim c.loop-k-test.branch [
      | else-loop-k-test w ↦ w.trace-is ∙ c.loop-k.invariant.0 ∙ ap trace_text (let e : c.loop-k.k - 1 ≡ c.args.n = omega arith in e)
      | then-loop-k-test+in_ok-push_records+else-k-n w ↦
          w.trace-is ∙ trace_grown c.loop-k.k c.args.n c.loop-k.trace w.push_records.new.trace c.loop-k.auto.k c.loop-k.invariant.0 w.in_ok-push_records.ensures (omega arith)
    ]

pub returns-clause-good : goal.returns-clause-good
returns-clause-good c = λ h. made_good c.args.n _ (returns-clause-text c) h
