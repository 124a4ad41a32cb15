use Rattle.std.proofs.Common.{refl, arith}
use Rattle.resin_guard.proofs.Firsts.{within, next, run_none, run_some, none_left}
use Rattle.resin_guard.proofs.judge.first_untrusted.Goals as goal

pub loop-run-init : goal.loop-run-init
loop-run-init c = record { begins = refl; none = λ k h. absurd (omega arith) }

pub first_of_run-requires : goal.first_of_run-requires
first_of_run-requires c =
    within c.args.runs.now c.args.bad.now c.args.safe.now c.requires.coalesced c.requires.whole c.loop-run.run-index c.run-item.result c.loop-run-test.true c.run-item.is
    c.loop-run.from c.run-item.result.end c.loop-run.invariant.begins refl

pub returns-in-Some : goal.returns-in-Some
returns-in-Some c =
    run_some c.args.runs.now c.args.bad.now c.args.safe.now c.requires.coalesced c.requires.whole c.loop-run.run-index c.run-item.result c.loop-run-test.true c.run-item.is
    c.loop-run.from c.run-item.result.end c.loop-run.invariant.begins refl c.in-Some.at c.loop-run.invariant.none c.in-Some.ensures

pub loop-run-preserved : goal.loop-run-preserved
loop-run-preserved c = record {
  begins = next c.args.runs.now c.args.bad.now c.args.safe.now c.requires.coalesced c.requires.whole c.loop-run.run-index c.run-item.result c.loop-run-test.true c.run-item.is
      c.loop-run.from c.run-item.result.end c.loop-run.invariant.begins refl;
  none = run_none c.args.runs.now c.args.bad.now c.args.safe.now c.requires.coalesced c.requires.whole c.loop-run.run-index c.run-item.result c.loop-run-test.true c.run-item.is
      c.loop-run.from c.run-item.result.end c.loop-run.invariant.begins refl c.loop-run.invariant.none c.in_default.ensures;
}

pub returns : goal.returns
returns c =
    none_left c.args.runs.now c.args.bad.now c.args.safe.now c.requires.coalesced c.requires.whole c.loop-run.run-index c.loop-run.from (omega (arith, c.loop-run-test.false)) c.loop-run.invariant.begins c.loop-run.invariant.none
