use Rattle.resin_step_parts.proofs.Extended.{joint_first, joint_second, joint_too_long, joint_made}
use Rattle.resin_step_parts.proofs.appends.charge_joint.Goals as goal

pub returns-in_err-charge_bytes-clause-does : goal.returns-in_err-charge_bytes-clause-does
returns-in_err-charge_bytes-clause-does c = λ a b ex ey. joint_first a b _ _ _ _ _ ex c.from_residual.ensures.1 c.in_err-charge_bytes.ensures.acts

pub returns-in_err-charge_bytes-2-clause-does : goal.returns-in_err-charge_bytes-2-clause-does
returns-in_err-charge_bytes-2-clause-does c = λ a b ex ey. joint_second a b _ _ _ _ _ _ _ ex ey c.from_residual-in_err-charge_bytes-2.ensures.1 c.in_ok-charge_bytes.ensures.acts c.in_err-charge_bytes-2.ensures.acts

pub returns-then-both-gt-LONGEST-clause-does : goal.returns-then-both-gt-LONGEST-clause-does
returns-then-both-gt-LONGEST-clause-does c = λ a b ex ey. joint_too_long a b _ _ _ _ _ _ ex ey c.if-both-gt-LONGEST.true c.fault.ensures c.in_ok-charge_bytes.ensures.acts c.in_ok-charge_bytes-2.ensures.acts

pub returns-clause-does : goal.returns-clause-does
returns-clause-does c = λ a b ex ey. joint_made a b _ _ _ _ _ _ _ ex ey c.if-both-gt-LONGEST.false c.in_ok-charge_bytes.ensures.acts c.in_ok-charge_bytes-2.ensures.acts c.charge_bytes-3.ensures.acts
