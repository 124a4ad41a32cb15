use Rattle.std.proofs.Common.{◌≡◌, get_or, subst}
use Rattle.std.specs.Prelude.{IfOk}
use Rattle.resin_step_keeping.proofs.Labelling.{get_same, run_taken, all_read}
use Rattle.resin_step_keeping.proofs.labels.spelled.Goals as goal

pub loop-len-preserved : goal.loop-len-preserved
loop-len-preserved c = record {
  within = c.in_ok-text.ensures.within;
  left = run_taken c.args.sets.now c.args.runs.now c.loop-len.len-index (get_or c.args.runs.now c.loop-len.len-index (0, 0)) c.loop-len.text c.in_ok-text.text c.args.bytes.now _ c.loop-len-test.true
      (get_same c.args.runs.now c.loop-len.len-index _ _ c.loop-len-test.true) c.in_ok-text.ensures.run c.loop-len.invariant.left;
}

pub returns : goal.returns
returns c =
    subst (λ x. IfOk c.finish.result (λ t. t ≡ x)) (all_read c.args.sets.now c.args.runs.now c.loop-len.len-index c.loop-len.text _ _ c.loop-len-test.false c.loop-len.invariant.left) c.finish.ensures
