use Rattle.resin_step_functions.proofs.step_parts_lemmas.Pure.{value_added}
use Rattle.std.proofs.Common.{arith}
use Rattle.resin_step_objects.proofs.calls.values_in.Goals as goal

pub loop-i-preserved : goal.loop-i-preserved
loop-i-preserved c =
    record { within = omega (arith, c.loop-i-test.true, c.len.ensures.value); made = rw (c.in_ok-push.ensures.ok, c.in_ok-clone.ensures.cases) (value_added c.args.a.now.entries c.loop-i.i c.entry.result.0.now c.entry.result.1.now c.loop-i.out c.entry.ensures c.loop-i.invariant.made) }
