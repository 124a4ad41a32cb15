use Rattle.std.proofs.Common.{◌-◌, ◌+◌, arith, ◌∙◌}
use Rattle.resin_shadow.specs.Readers.{policy_step}
use Rattle.resin_shadow.proofs.Loops.{turn}
use Rattle.resin_shadow.proofs.reading.read_policies.Goals as goal

pub loop-i-preserved : goal.loop-i-preserved
loop-i-preserved c =
    turn policy_step (c.args.count - c.loop-i._i) (c.args.count - (c.loop-i._i + 1)) c.loop-i.policies c.read_policy.new.policies c.loop-i.rest c.read_policy.new.rest (omega (arith, c.loop-i-test.true)) c.in_ok-read_policy.ensures
    ∙ c.loop-i.invariant
