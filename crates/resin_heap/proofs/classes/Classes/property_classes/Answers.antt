use Rattle.std.proofs.Common.{◌<◌, ◌∙◌, subst, length, ℕ, Option}
use Rattle.std.specs.Prelude.{IfSome}
use Rattle.resin_heap.proofs.Lines.{properties_next}
use Rattle.resin_heap.proofs.Seats.{some_below}
use Rattle.resin_heap.proofs.classes.Classes.property_classes.Goals as goal

pub loop-next-preserved : goal.loop-next-preserved
loop-next-preserved c =
    let t = c.args.self.now in
    let at = c.in-Some.at in
    let above = c.giver_above-next.result in
    let within : at < length t = subst (λ (o : Option ℕ). IfSome o (λ a. a < length t)) c.in-Some.is c.loop-next.invariant.1 in (
      c.loop-next.invariant.0 ∙ properties_next t at c.loop-next.next c.loop-next.numbers.items c.push.new.self.items above c.in-Some.is c.in_ok-push.ensures.items c.giver_above-next.ensures.all,
      some_below above at (length t) c.giver_above-next.ensures.smaller within,
    )
