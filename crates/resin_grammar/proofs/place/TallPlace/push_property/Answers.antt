use Rattle.std.proofs.Common.{◌≡◌, [], ◌∷◌, ◌++◌, sym, ◌∙◌, ap, arith}
use Rattle.resin_tree.specs.declared.expression.PathStep.TheVariants as step
use Rattle.resin_grammar.specs.Places.{Place}
use Rattle.resin_grammar.proofs.PlaceLaws.{property_height, property_next}
use Rattle.resin_grammar.proofs.place.TallPlace.push_property.Goals as goal

pub invariant_of-self-2 : goal.invariant_of-self-2
invariant_of-self-2 c =
    let p : Place = record { variable = c.self.inside.variable; path = c.self.inside.path } in
    let grown : c.push.new.self ≡ p.path ++ step.Property c.args.name ∷ [] = c.in_ok-push.ensures.ok in
    rw grown (omega (arith, property_height p c.args.name, c.above-height.ensures, c.self.invariant.0), c.self.invariant.1 ∙ sym (property_next p c.args.name))
