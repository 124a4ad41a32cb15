use Rattle.resin_eval_channels.proofs.eval_nested_lemmas.Arms.{does_looked, does_no, does_yes}
use Rattle.resin_eval_channels.proofs.meaning_lemmas.Composition.{does_exit, does_give, does_next}
use Rattle.std.proofs.Common.{sym, ◌∙◌}
use Rattle.resin_eval_calls.proofs.imports.Importer.run_path.Goals as goal

pub returns-then-passes_over : goal.returns-then-passes_over
returns-then-passes_over g c =
    does_next _ _ (does_looked _ _ c.is_imported-was.ensures) (does_yes _ _ _ (sym c.passes_over.ensures ∙ c.if-passes_over.true) (does_give _ _))

pub returns-in_err-found : goal.returns-in_err-found
returns-in_err-found g c =
    does_next _ _ (does_looked _ _ c.is_imported-was.ensures) (does_no _ _ _ (sym c.passes_over.ensures ∙ c.if-passes_over.false) (does_exit _ _ _ c.from_residual.ensures.1 c.in_err-found.ensures))

pub returns : goal.returns
returns g c =
    does_next _ _ (does_looked _ _ c.is_imported-was.ensures) (does_no _ _ _ (sym c.passes_over.ensures ∙ c.if-passes_over.false) (does_next _ _ c.in_ok-found.ensures c.run_found.ensures))
