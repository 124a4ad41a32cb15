use Rattle.std.proofs.Common.{arith, ap, ◌∙◌}
use Rattle.resin_meaning_forms.specs.Under.value.Seen.{tree_of}
use Rattle.resin_meaning_forms.specs.Under.value.Compare.{identical_trees}
use Rattle.resin_meaning_forms.specs.Operators.{or_spent}
use Rattle.resin_step_parts.proofs.Answered.{does_with_ticks}
use Rattle.resin_step_parts.proofs.Ticks.{identical_falls}
use Rattle.resin_step_parts.proofs.operators.are_identical.Goals as goal

pub charged_down-requires : goal.charged_down-requires
charged_down-requires c = omega (arith, c.identical.ensures.charged, c.ticks.ensures, identical_falls (tree_of c.args.x.now) (tree_of c.args.y.now) c.ticks.result)

pub returns : goal.returns
returns c = does_with_ticks (λ n. let a = identical_trees (tree_of c.args.x.now) (tree_of c.args.y.now) n in (or_spent a.0, a.1)) _ _ _ _ _ (c.or_spent-answer.ensures ∙ ap or_spent (c.identical.ensures.answer ∙ ap (λ n. (identical_trees (tree_of c.args.x.now) (tree_of c.args.y.now) n).0) c.ticks.ensures)) (c.identical.ensures.charged ∙ ap (λ n. (identical_trees (tree_of c.args.x.now) (tree_of c.args.y.now) n).1) c.ticks.ensures) c.charged_down.ensures.acts
