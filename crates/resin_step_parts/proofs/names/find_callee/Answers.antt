use Rattle.std.proofs.Common.{sym, ◌∙◌}
use Rattle.std.proofs.lemmas.Result.{err_from_is_err_and}
use Rattle.resin_step_parts.proofs.Named.{called_own, found_own, found_script, found_none}
use Rattle.resin_step_parts.proofs.names.find_callee.Goals as goal

pub returns-in-Some : goal.returns-in-Some
returns-in-Some c = record { runs = found_own _ _ _ (sym c.own_named.ensures ∙ c.in-Some.is); called = called_own _ _ (sym c.own_named.ensures ∙ c.in-Some.is) }

pub returns-in_err-find_function : goal.returns-in_err-find_function
returns-in_err-find_function c = let p = err_from_is_err_and c.from_residual.result c.from_residual.ensures.1 in rw (p.1, p.2) (record { runs = found_none _ _ _ (sym c.own_named.ensures ∙ c.in_default.is) c.in_err-find_function.ensures.acts; called = tt })

pub returns : goal.returns
returns c = record { runs = found_script _ _ _ (sym c.own_named.ensures ∙ c.in_default.is) c.in_ok-find_function.ensures.acts; called = tt }
