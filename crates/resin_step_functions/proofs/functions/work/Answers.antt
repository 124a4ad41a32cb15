use Rattle.resin_step_parts.specs.Under.builtin.Names.{builtin_named}
use Rattle.resin_step_functions.proofs.Spent.{left_below, work_done}
use Rattle.resin_step_parts.proofs.Answered.{charge_stops}
use Rattle.std.proofs.Common.{ap, arith, ◌-◌}
use Rattle.std.proofs.lemmas.Result.{err_from_is_err_and}
use Rattle.resin_step_functions.proofs.functions.work.Goals as goal

pub overflow_sub-before : goal.overflow_sub-before
overflow_sub-before c =
    left_below (builtin_named c.args.name.now) _ _ _ _ c.call-answer.result c.call-answer.ensures.answer c.call-answer.ensures.kept

pub returns-in_err-charge : goal.returns-in_err-charge
returns-in_err-charge c =
    let p = err_from_is_err_and c.from_residual.result c.from_residual.ensures.1 in
    record { acts = rw (p.1, p.2) (charge_stops _ _ _ _ _ (omega (arith, c.ticks-before.ensures)) c.in_err-charge.ensures.acts) }

pub returns : goal.returns
returns c = record {
  acts =
      work_done c.args.known _ _ (builtin_named c.args.name.now) c.args.m.now _ _ c.call-answer.result _ _ _ c.requires (rw c.ticks-before.ensures at c.call-answer.ensures.answer)
      (rw c.ticks-before.ensures at c.call-answer.ensures.kept) (ap (λ k. k - c.call-answer.new.ticks.left) c.ticks-before.ensures) c.in_ok-charge.ensures.acts c.settle.ensures.acts;
}
