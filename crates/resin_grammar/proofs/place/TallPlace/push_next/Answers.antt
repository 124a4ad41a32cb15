use Rattle.std.proofs.Common.{◌≡◌, [], ◌∷◌, ◌++◌, sym, ◌∙◌, ap, arith}
use Rattle.resin_tree.specs.declared.expression.PathStep.TheVariants as step
use Rattle.resin_grammar.specs.Places.{Place}
use Rattle.resin_grammar.proofs.PlaceLaws.{append_height, append_next}
use Rattle.resin_grammar.proofs.place.TallPlace.push_next.Goals as goal

pub invariant_of-self-2 : goal.invariant_of-self-2
invariant_of-self-2 c =
    let p : Place = record { variable = c.self.inside.variable; path = c.self.inside.path } in
    let grown : c.push.new.self ≡ p.path ++ step.Append ∷ [] = c.in_ok-push.ensures.ok in
    rw grown (omega (arith, append_height p, c.above-height.ensures, c.self.invariant.0), sym (append_next p))
