use Rattle.resin_shadow.proofs.Behind.{run_some, run_fits, run_next, runs_end}
use Rattle.resin_shadow.proofs.runs.FrozenRuns.append.Goals as goal

pub push-requires-clause-some : goal.push-requires-clause-some
push-requires-clause-some c = run_some c.args.more.now c.runs-run-items.result.now c.runs-run-items.ensures c.loop-run.run-index c.run-item.result c.loop-run-test.true c.run-item.is

pub push-requires-clause-count : goal.push-requires-clause-count
push-requires-clause-count c =
    run_fits c.args.more.now c.runs-run-items.result.now c.runs-run-items.ensures c.args.self.now c.loop-run.self c.loop-run.run-index c.run-item.result c.loop-run-test.true c.run-item.is c.loop-run.invariant c.requires.count

pub loop-run-preserved : goal.loop-run-preserved
loop-run-preserved c =
    run_next c.args.more.now c.runs-run-items.result.now c.runs-run-items.ensures c.len-len.ensures.marks c.args.self.now c.loop-run.self c.push.new.self c.loop-run.run-index c.run-item.result c.loop-run-test.true c.run-item.is c.loop-run.invariant
    c.in_ok-push.ensures.ok

pub returns : goal.returns
returns c = runs_end c.args.more.now c.runs-run-items.result.now c.runs-run-items.ensures c.args.self.now c.loop-run.self c.loop-run.run-index c.loop-run-test.false c.loop-run.invariant
