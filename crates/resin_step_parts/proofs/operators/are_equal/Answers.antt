use Rattle.std.proofs.Common.{arith, ap, ◌∙◌}
use Rattle.resin_meaning_forms.specs.Under.value.Seen.{tree_of}
use Rattle.resin_meaning_forms.specs.Under.value.Compare.{equal_trees}
use Rattle.resin_meaning_forms.specs.Operators.{or_fault}
use Rattle.resin_step_parts.proofs.Answered.{does_with_ticks}
use Rattle.resin_step_parts.proofs.Ticks.{equal_falls}
use Rattle.resin_step_parts.proofs.operators.are_equal.Goals as goal

pub charged_down-requires : goal.charged_down-requires
charged_down-requires c = omega (arith, c.equal.ensures.charged, c.ticks.ensures, equal_falls (tree_of c.args.x.now) (tree_of c.args.y.now) c.ticks.result)

pub returns : goal.returns
returns c = does_with_ticks (λ n. let a = equal_trees (tree_of c.args.x.now) (tree_of c.args.y.now) n in (or_fault a.0, a.1)) _ _ _ _ _ (c.or_fault-answer.ensures ∙ ap or_fault (c.equal.ensures.answer ∙ ap (λ n. (equal_trees (tree_of c.args.x.now) (tree_of c.args.y.now) n).0) c.ticks.ensures)) (c.equal.ensures.charged ∙ ap (λ n. (equal_trees (tree_of c.args.x.now) (tree_of c.args.y.now) n).1) c.ticks.ensures) c.charged_down.ensures.acts
