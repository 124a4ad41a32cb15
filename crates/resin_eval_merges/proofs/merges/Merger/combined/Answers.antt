use Rattle.resin_eval_nested.specs.Under.meaning_forms.Operators.{calculated, concatenated}
use Rattle.resin_eval_nested.specs.Under.meaning_forms.Programs.{evals}
use Rattle.resin_eval_nested.proofs.Exits.{does_is}
use Rattle.resin_eval_nested.specs.Under.ops.declared.operator.Arith.{Arith}
use Rattle.resin_eval_nested.proofs.meaning_lemmas.Composition.{does_exit, does_next}
use Rattle.resin_eval_nested.specs.Under.value.Seen.{tree_of}
use Rattle.std.proofs.Common.{Option, ap, ◌∙◌}
use Rattle.std.specs.Option.{option_map_or}
use Rattle.resin_eval_merges.proofs.merges.Merger.combined.Goals as goal

pub returns-in_err-charge_two : goal.returns-in_err-charge_two
returns-in_err-charge_two g c =
    does_exit _ _ _ c.from_residual.ensures.1 (c.in_err-charge_two.ensures _ _ _)

pub returns-in-Some : goal.returns-in-Some
returns-in-Some g c =
    does_next _ _ (c.in_ok-charge_two.ensures _ _ _) (does_is (c.arithmetic.ensures (evals c.args.self.now.by.now.room) (tree_of c.args.x.now) (tree_of c.args.y.now) ∙ ap (λ (o : Option Arith). option_map_or (λ by. calculated (evals c.args.self.now.by.now.room) by (tree_of c.args.x.now) (tree_of c.args.y.now)) o (concatenated (tree_of c.args.x.now) (tree_of c.args.y.now))) c.in-Some.is) c.calculated.ensures)

pub returns-in-None : goal.returns-in-None
returns-in-None g c =
    does_next _ _ (c.in_ok-charge_two.ensures _ _ _) (does_is (c.arithmetic.ensures (evals c.args.self.now.by.now.room) (tree_of c.args.x.now) (tree_of c.args.y.now) ∙ ap (λ (o : Option Arith). option_map_or (λ by. calculated (evals c.args.self.now.by.now.room) by (tree_of c.args.x.now) (tree_of c.args.y.now)) o (concatenated (tree_of c.args.x.now) (tree_of c.args.y.now))) c.in-None.is) (c.concatenated.ensures _ _ _))
