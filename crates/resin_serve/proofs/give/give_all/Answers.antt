use Rattle.std.proofs.Common.{arith, ◌∙◌, length-take, length-drop, ℕ}
use Rattle.std.proofs.lemmas.List.{take_rest}
use Rattle.resin_serve.proofs.Giving.{grew_more}
use Rattle.resin_serve.proofs.give.give_all.Goals as goal

pub loop-place-preserved : goal.loop-place-preserved
loop-place-preserved g c = record {
  within = omega (arith, c.in-Ok.ensures.bound, length-take {A = ℕ}, length-drop {A = ℕ});
  grew = grew_more _ _ _ _ _ _ _ (take_rest c.args.text.now c.loop-place.place) c.loop-place.invariant.grew c.in-Ok.ensures.moved;
  faults = c.in-Ok.ensures.cause ∙ c.loop-place.invariant.faults;
  stalls = c.in-Ok.ensures.stalled.1 (omega arith) ∙ c.loop-place.invariant.stalls;
}
