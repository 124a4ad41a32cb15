use Rattle.resin_eval_queries.specs.Under.heap.declared.prelude.PreludeClass.TheVariants.{ValueError}
use Rattle.resin_eval_queries.proofs.eval_nested_lemmas.Arms.{does_no, does_yes}
use Rattle.resin_eval_queries.proofs.eval_nested_lemmas.Exits.{does_seen_exit}
use Rattle.resin_eval_queries.proofs.meaning_lemmas.Composition.{does_next}
use Rattle.resin_eval_queries.proofs.step_parts_lemmas.Steps.{thrown_seen}
use Rattle.std.proofs.Common.{sym, ◌∙◌}
use Rattle.resin_eval_channels.proofs.files.Shelf.get_contents.Goals as goal

pub returns-then-not-lawful_path : goal.returns-then-not-lawful_path
returns-then-not-lawful_path g c =
    does_no _ _ _ (sym c.lawful_path.ensures ∙ c.if-not-lawful_path.true) (thrown_seen _ ValueError _ _ _ c.throw.ensures.acts _ _ _)

pub returns-in_err-found : goal.returns-in_err-found
returns-in_err-found g c =
    does_yes _ _ _ (sym c.lawful_path.ensures ∙ c.if-not-lawful_path.false) (does_seen_exit _ _ _ _ c.from_residual.ensures.1 c.in_err-found.ensures)

pub returns : goal.returns
returns g c =
    does_yes _ _ _ (sym c.lawful_path.ensures ∙ c.if-not-lawful_path.false) (does_next _ _ c.in_ok-found.ensures c.contents_of.ensures)
