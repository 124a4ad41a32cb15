use Rattle.resin_eval_channels.proofs.eval_nested_lemmas.Arms.{does_looked}
use Rattle.resin_eval_channels.proofs.eval_nested_lemmas.Exits.{does_seen_unbegun}
use Rattle.resin_eval_channels.proofs.meaning_lemmas.Composition.{does_next}
use Rattle.std.proofs.Common.{◌∙◌}
use Rattle.resin_eval_calls.proofs.calls.Caller.filtered.Goals as goal

pub returns-in_err-name : goal.returns-in_err-name
returns-in_err-name g c =
    does_seen_unbegun _ _ _ _ c.from_residual.ensures.1

pub returns-in_err-chain : goal.returns-in_err-chain
returns-in_err-chain g c =
    does_seen_unbegun _ _ _ _ c.from_residual-in_err-chain.ensures.1

pub returns : goal.returns
returns g c =
    does_next _ _ (does_looked _ _ (c.in_ok-chain.ensures.items_if_clones_equal (λ x y h. h) ∙ rw (c.chains.ensures, c.as_slice.ensures.value, c.in_ok-name.ensures) at c.func_chain.ensures)) (rw (c.as_slice-2.ensures.value, c.in_ok-name.ensures, c.as_slice-3.ensures.value) at c.ask_function_filters.ensures)
