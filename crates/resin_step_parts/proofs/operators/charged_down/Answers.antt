use Rattle.std.proofs.Common.{arith, ap, ◌-◌}
use Rattle.std.proofs.lemmas.Result.{err_from_is_err_and}
use Rattle.resin_step_parts.proofs.Answered.{charge_stops, charged_then}
use Rattle.resin_step_parts.proofs.operators.charged_down.Goals as goal

pub returns-in_err-charge : goal.returns-in_err-charge
returns-in_err-charge c = let p = err_from_is_err_and c.from_residual.result c.from_residual.ensures.1 in record { acts = rw (p.1, p.2) (charge_stops _ _ _ _ _ (omega (arith, c.ticks.ensures, c.requires)) c.in_err-charge.ensures.acts) }

pub returns : goal.returns
returns c = record { acts = charged_then _ _ _ _ _ _ _ c.requires (ap (λ n. n - c.args.left) c.ticks.ensures) c.in_ok-charge.ensures.acts c.settle.ensures.acts }
