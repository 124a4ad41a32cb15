-- Repeated forms: one turn, or the end.
use Rattle.std.proofs.Common.{◌≡◌, ℕ, ◌+◌, Bool, true, false, List, [], ◌∷◌, ◌⊎◌, inl, inr, refl, subst}
use Rattle.resin_form.specs.Form.{EndsBefore, Many, done, more}
use Rattle.resin_sql_words.specs.declared.cursor.Placed.{Placed}
use Rattle.resin_sql_words.specs.Places.{placed}

module _ {A : Type 0} (test : A → Placed → Bool) (step : A → Placed → List Placed → A → List Placed → Type 0) where
  abbrev pub Inverted : A → List Placed → A → List Placed → Type 0
  Inverted a [] v rest = (v ≡ a) × (rest ≡ [])
  Inverted a (t ∷ ts) v rest = ((b : A) × (mid : List Placed) × (test a t ≡ true) × step a t ts b mid × Many test step b mid v rest) ⊎ ((test a t ≡ false) × (v ≡ a) × (rest ≡ t ∷ ts))

  at_end : (a : A) (us : List Placed) → EndsBefore (test a) us → Inverted a us a us
  at_end a [] h = (refl, refl)
  at_end a (t ∷ us) h = inr (h, refl, refl)

module _ {A : Type 0} {test : A → Placed → Bool} {step : A → Placed → List Placed → A → List Placed → Type 0} where
  pub inverted : (a : A) (us : List Placed) (v : A) (rest : List Placed) → Many test step a us v rest → Inverted test step a us v rest
  inverted a us v rest (done h) = at_end test step a us h
  inverted a us v rest (more {b = b} {mid = mid} passes first others) = inl (b, mid, passes, first, others)

  pub from_here : {a b v : A} {us ts rest : List Placed} → a ≡ b → us ≡ ts → Many test step a us v rest → Many test step b ts v rest
  from_here {b = b} {v = v} {us = us} {rest = rest} e f h = subst (λ ts. Many test step b ts v rest) f (subst (λ a. Many test step a us v rest) e h)

-- the bytes from the offset n on are `len` that `write` writes, and then others
pub record Took (n len : ℕ) (bs : List ℕ) (rest : List Placed) (write : List ℕ → List ℕ) : Type 0 where
  pub others : List ℕ
  pub behind : ℕ
  pub text : bs ≡ write others
  pub left : rest ≡ placed behind others
  pub at : behind ≡ n + len
