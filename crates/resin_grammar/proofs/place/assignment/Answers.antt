use Rattle.std.proofs.Common.{◌≡◌, ◌∙◌, ap, arith}
use Rattle.resin_tree.specs.declared.expression.Expr.TheVariants as x
use Rattle.resin_grammar.specs.Places.{target_of}
use Rattle.resin_grammar.specs.Trees as tree
use Rattle.resin_grammar.proofs.HeightLaws.{height_written}
use Rattle.resin_grammar.proofs.place.assignment.Goals as goal

pub boxed-requires : goal.boxed-requires
boxed-requires c =
    let made : x.Assignment c.assigned-made.result ≡ tree.assignment c.args.writing (target_of c.args.place) c.args.value =
    c.assigned-made.ensures ∙ ap (λ t. tree.assignment c.args.writing t c.into_tree.result) c.into_target.ensures ∙ ap (tree.assignment c.args.writing (target_of c.args.place)) c.into_tree.ensures in
    rw made (omega (arith, height_written c.args.writing c.args.place c.args.value, c.above-high.ensures, c.height.ensures, c.height-2.ensures))
