use Rattle.resin_eval_nested.proofs.Arms.{does_looked}
use Rattle.resin_eval_nested.proofs.meaning_lemmas.Composition.{does_next, does_unbegun_exit}
use Rattle.std.proofs.Common.{◌∙◌}
use Rattle.resin_eval_writes.proofs.reading.Reader.pass.Goals as goal

pub returns-in_err-chain : goal.returns-in_err-chain
returns-in_err-chain g c =
    does_unbegun_exit _ _ _ c.from_residual.ensures.1

pub returns : goal.returns
returns g c =
    does_next _ _ (does_looked _ _ (c.in_ok-chain.ensures.items_if_clones_equal (λ x y h. h) ∙ rw c.chains.ensures at c.chain.ensures)) (rw c.as_slice.ensures.value at c.ask_filters.ensures)
