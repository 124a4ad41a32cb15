use Rattle.std.proofs.Common.{sym, ◌∙◌}
use Rattle.resin_eval_writes.proofs.eval_nested_lemmas.Arms.{does_no, does_yes}
use Rattle.resin_eval_writes.proofs.eval_nested_lemmas.Exits.{does_seen_exit}
use Rattle.resin_eval_writes.proofs.meaning_lemmas.Composition.{does_give, does_next}
use Rattle.resin_eval_queries.proofs.cells.CellReader.cell.Goals as goal

pub returns-then-is_null : goal.returns-then-is_null
returns-then-is_null g c = does_yes _ _ _ (sym c.is_null.ensures ∙ c.if-is_null.true) (does_give _ _)

pub returns-in_err-text : goal.returns-in_err-text
returns-in_err-text g c = does_no _ _ _ (sym c.is_null.ensures ∙ c.if-is_null.false) (does_seen_exit _ _ _ _ c.from_residual.ensures.1 (c.in_err-text.ensures _ _ _))

pub returns : goal.returns
returns g c = does_no _ _ _ (sym c.is_null.ensures ∙ c.if-is_null.false) (does_next _ _ (c.in_ok-text.ensures _ _ _) c.value.ensures)
