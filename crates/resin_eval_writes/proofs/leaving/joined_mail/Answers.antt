use Rattle.resin_eval_nested.proofs.meaning_lemmas.Composition.{does_exit, does_next, does_unbegun_exit}
use Rattle.resin_eval_writes.proofs.leaving.joined_mail.Goals as goal

pub returns-in_err-line : goal.returns-in_err-line
returns-in_err-line c =
    λ f t k. does_unbegun_exit _ _ _ c.from_residual.ensures.1

pub returns-in_err-below : goal.returns-in_err-below
returns-in_err-below c =
    λ f t k. does_exit _ _ _ c.from_residual-in_err-below.ensures.1 (rw c.in_ok-line.ensures at c.in_err-below.ensures f t k)

pub returns-in_err-named : goal.returns-in_err-named
returns-in_err-named c =
    λ f t k. does_next _ _ ((rw c.in_ok-line.ensures at c.in_ok-below.ensures) f t k) (does_exit _ _ _ c.from_residual-in_err-named.ensures.1 (c.in_err-named.ensures f t k))

pub returns-in_err-rest : goal.returns-in_err-rest
returns-in_err-rest c =
    λ f t k. does_next _ _ ((rw c.in_ok-line.ensures at c.in_ok-below.ensures) f t k) (does_next _ _ (c.in_ok-named.ensures f t k) (does_exit _ _ _ c.from_residual-in_err-rest.ensures.1 ((rw c.in_ok-line.ensures at c.in_err-rest.ensures) f t k)))

pub returns : goal.returns
returns c =
    λ f t k. does_next _ _ ((rw c.in_ok-line.ensures at c.in_ok-below.ensures) f t k) (does_next _ _ (c.in_ok-named.ensures f t k) (does_next _ _ ((rw c.in_ok-line.ensures at c.in_ok-rest.ensures) f t k) (c.behind-4.ensures f t k)))
