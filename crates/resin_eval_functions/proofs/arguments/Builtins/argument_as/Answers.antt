use Rattle.resin_eval_merges.proofs.eval_nested_lemmas.Exits.{does_seen_exit}
use Rattle.resin_eval_merges.proofs.meaning_lemmas.Composition.{does_next}
use Rattle.resin_eval_merges.proofs.step_parts_lemmas.Steps.{does_computed_tree}
use Rattle.resin_eval_functions.proofs.arguments.Builtins.argument_as.Goals as goal

pub returns-in_err-turned : goal.returns-in_err-turned
returns-in_err-turned g c =
    does_seen_exit _ _ _ _ c.from_residual.ensures.1 (does_computed_tree _ _ c.turned_into-turned.ensures c.in_err-turned.ensures.acts _ _ _)

pub returns : goal.returns
returns g c =
    does_next _ _ (does_computed_tree _ _ c.turned_into-turned.ensures c.in_ok-turned.ensures.acts _ _ _) (c.with_folded.ensures)
