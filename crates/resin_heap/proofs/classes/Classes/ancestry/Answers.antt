use Rattle.std.proofs.Common.{◌<◌, ◌++◌, [], sym, ap, ◌∙◌, subst, length, ℕ, Option}
use Rattle.std.specs.Prelude.{IfSome}
use Rattle.std.specs.Option.{option_map_or}
use Rattle.resin_heap.specs.Classes.{line}
use Rattle.resin_heap.proofs.Lines.{line_next}
use Rattle.resin_heap.proofs.Seats.{some_below}
use Rattle.resin_heap.proofs.classes.Classes.ancestry.Goals as goal

pub loop-next-preserved : goal.loop-next-preserved
loop-next-preserved c =
    let t = c.args.self.now in
    let so_far = c.loop-next.numbers.items in
    let at = c.in-Some.at in
    let above = c.parent-next.result in
    let within : at < length t = subst (λ (o : Option ℕ). IfSome o (λ a. a < length t)) c.in-Some.is c.loop-next.invariant.1 in (
      c.loop-next.invariant.0
          ∙ ap (λ o. so_far ++ option_map_or (line t) o []) c.in-Some.is
          ∙ line_next t at so_far above c.parent-next.ensures.value
          ∙ ap (λ xs. xs ++ option_map_or (line t) above []) (sym c.in_ok-push.ensures.items),
      some_below above at (length t) c.parent-next.ensures.smaller within,
    )
