-- What is still to be read, behind what was, is what was to be read.
use Rattle.std.proofs.Common.{◌≡◌, ◌-◌, []}
use Rattle.resin_shadow.specs.Readers.{times, policy_step}
use Rattle.resin_shadow.proofs.reading.read_policies.Given as goal

abbrev pub invariant-loop-i : goal.invariant-loop-i
invariant-loop-i l = times policy_step (l.count - l._i) l.policies l.rest ≡ times policy_step l.count [] l.initial.rest
