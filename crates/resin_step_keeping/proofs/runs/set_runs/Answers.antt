use Rattle.std.proofs.Common.{refl, ◌∙◌, sym, ap, arith}
use Rattle.resin_step_keeping.proofs.Freezes.{run_more, rest_coalesced, covered_more, spelled_whole, covered_whole}
use Rattle.resin_step_keeping.proofs.runs.set_runs.Goals as goal

pub loop-run-preserved : goal.loop-run-preserved
loop-run-preserved c =
    let p = c.in_ok-push_run.ensures.runs in
    let r = rest_coalesced c.loop-run.from c.runs-run-items.result.now c.loop-run.run-index c.run-item.result c.loop-run-test.true c.run-item.is c.loop-run.invariant.coalesced in
    record {
      spelled = run_more c.loop-run.sets.keys c.push_run.new.sets.keys c.loop-run.runs.items c.push_run.new.runs.items c.loop-run.from p.0 c.runs-run-items.result.now c.loop-run.run-index c.run-item.result c.loop-run-test.true c.run-item.is
          c.in_ok-push_run.ensures.sets p.1 p.2 c.loop-run.invariant.spelled;
      covered = covered_more c.loop-run.sets.keys c.push_run.new.sets.keys c.loop-run.runs.items c.push_run.new.runs.items _ p.0 c.run-item.result.set (omega (arith, r.0)) c.in_ok-push_run.ensures.sets p.1 p.2 c.loop-run.invariant.covered;
      coalesced = r.1;
    }

pub returns-clause-spelled : goal.returns-clause-spelled
returns-clause-spelled c =
    spelled_whole c.loop-run.sets.keys c.loop-run.runs.items c.loop-run.from c.runs-run-items.result.now c.loop-run.run-index c.loop-run-test.false c.loop-run.invariant.spelled ∙ c.runs-run-items.ensures.spelled

pub returns-clause-covered : goal.returns-clause-covered
returns-clause-covered c =
    covered_whole c.loop-run.sets.keys c.loop-run.runs.items _
    (spelled_whole c.loop-run.sets.keys c.loop-run.runs.items c.loop-run.from c.runs-run-items.result.now c.loop-run.run-index c.loop-run-test.false c.loop-run.invariant.spelled ∙ c.runs-run-items.ensures.spelled) c.loop-run.invariant.covered
