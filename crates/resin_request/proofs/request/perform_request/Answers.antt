use Rattle.std.proofs.Common.{sym, ◌∙◌}
use Rattle.resin_request.specs.declared.request.Finish.TheVariants.{Missing}
use Rattle.resin_interp.proofs.meaning_lemmas.Composition.{does_next, does_exit, does_give}
use Rattle.resin_interp.proofs.eval_nested_lemmas.Arms.{does_yes, does_no}
use Rattle.resin_request.proofs.request.perform_request.Goals as goal

pub returns-then-not-is_open : goal.returns-then-not-is_open
returns-then-not-is_open g c = does_no _ _ _ (sym c.is_open.ensures ∙ c.if-not-is_open.true) (does_give Missing _)

pub returns-in_err-found : goal.returns-in_err-found
returns-in_err-found g c = does_yes _ _ _ (sym c.is_open.ensures ∙ c.if-not-is_open.false) (does_exit _ _ _ c.from_residual.ensures.1 c.in_err-found.ensures)

pub returns-in-None : goal.returns-in-None
returns-in-None g c = does_yes _ _ _ (sym c.is_open.ensures ∙ c.if-not-is_open.false) (does_next _ _ (rw c.in-None.is at c.in_ok-found.ensures) (does_give Missing _))

pub returns : goal.returns
returns g c = does_yes _ _ _ (sym c.is_open.ensures ∙ c.if-not-is_open.false) (does_next _ _ (rw c.in-Some.is at c.in_ok-found.ensures) c.serve_entry.ensures)
