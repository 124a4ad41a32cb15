use Rattle.std.proofs.Common.{◌≡◌, [], ◌∷◌, ◌++◌, sym, ◌∙◌, ap, arith}
use Rattle.resin_tree.specs.declared.expression.PathStep.TheVariants as step
use Rattle.resin_grammar.specs.Places.{Place}
use Rattle.resin_grammar.proofs.PlaceLaws.{index_height, index_next}
use Rattle.resin_grammar.proofs.place.TallPlace.push_index.Goals as goal

pub invariant_of-self-2 : goal.invariant_of-self-2
invariant_of-self-2 c =
    let p : Place = record { variable = c.self.inside.variable; path = c.self.inside.path } in
    let grown : c.push.new.self ≡ p.path ++ step.Index c.args.index ∷ [] = c.in_ok-push.ensures.ok ∙ ap (λ i. p.path ++ step.Index i ∷ []) c.into_tree.ensures in
    rw grown (omega (arith, index_height p c.args.index, c.above-height.ensures, c.self.invariant.0, c.height.ensures), c.self.invariant.1 ∙ sym (index_next p c.args.index))
