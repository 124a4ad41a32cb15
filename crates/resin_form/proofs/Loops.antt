-- One turn of a repeated form, and its end.
use Rattle.std.proofs.Common.{◌≡◌, ℕ, zero, suc, ◌≤◌, Bool, true, false, List, [], ◌∷◌, length, refl, ◌∙◌, ap, arith}
use Rattle.std.specs.Prelude.{if◌then◌else◌}
use Rattle.resin_form.specs.Form.{Begin, Own, Form, many, After}
use Rattle.resin_form.specs.Reading.{Outcome, Got, Stop, Deep, Reader, and_then, left, loop, read, read_after}
use Rattle.resin_form.specs.Meaning.{reading, allows_at}
use Rattle.resin_form.proofs.Cases.{if_true, if_false}
use Rattle.resin_form.proofs.Shrinks.{end_length, Shrinks, after_shrinks}
use Rattle.resin_form.proofs.Fronts.{shrinks}

then_same : {Token A B : Type 0} (o : Outcome Token B) (f g : B → Reader Token A) → ((b : B) (mid : List Token) → o ≡ Got b mid → f b mid ≡ g b mid) → and_then o f ≡ and_then o g
then_same (Got b mid) f g h = h b mid refl
then_same (Stop r) f g h = refl
then_same (Deep r) f g h = refl

module _ {Token A : Type 0} (test : A → Token → Bool) (step : A → Token → Reader Token A) (each : (b : A) (t : Token) → Shrinks (step b t)) where
  shorter : (a b : A) (t : Token) (ts mid : List Token) → step a t ts ≡ Got b mid → length mid ≤ length ts
  shorter a b t ts mid e = let k : length (left (step a t ts)) ≤ length ts = end_length (each a t ts) in let l : length (left (step a t ts)) ≡ length mid = ap length (ap left e) in omega arith

  -- the number of turns that are allowed doesn't matter
  loop_same : (n m : ℕ) (a : A) (ts : List Token) → length ts ≤ n → length ts ≤ m → loop test step n a ts ≡ loop test step m a ts
  loop_same zero zero a ts h k = refl
  loop_same zero (suc m) a [] h k = refl
  loop_same zero (suc m) a (t ∷ ts) h k = absurd (omega arith)
  loop_same (suc n) zero a [] h k = refl
  loop_same (suc n) zero a (t ∷ ts) h k = absurd (omega arith)
  loop_same (suc n) (suc m) a [] h k = refl
  loop_same (suc n) (suc m) a (t ∷ ts) h k =
      ap (λ o. if test a t then o else Got a (t ∷ ts)) (then_same (step a t ts) (loop test step n) (loop test step m)
      (λ b mid e. let s : length mid ≤ length ts = shorter a b t ts mid e in loop_same n m b mid (omega arith) (omega arith)))

  loop_turn : (a b : A) (t : Token) (ts mid : List Token) → test a t ≡ true → step a t ts ≡ Got b mid → loop test step (suc (length ts)) a (t ∷ ts) ≡ loop test step (length mid) b mid
  loop_turn a b t ts mid h e =
      if_true (and_then (step a t ts) (loop test step (length ts))) (Got a (t ∷ ts)) h
      ∙ ap (λ o. and_then o (loop test step (length ts))) e
      ∙ loop_same (length ts) (length mid) b mid (shorter a b t ts mid e) (omega arith)

module _ {Token Name : Type 0} {Value : Name → Type 0} (rules : (n : Name) → After Token Name Value Own (Value n)) (allows : ℕ → Bool) (depth : ℕ) where
  abbrev under : {A : Type 0} → Form Token Name Value A → Reader Token A
  under F = read (allows_at allows depth) (reading rules allows depth) F

  abbrev behind : {b : Begin} {A : Type 0} → After Token Name Value b A → Reader Token A
  behind F = read_after (allows_at allows depth) (reading rules allows depth) F

  module _ {begin : Begin} {A : Type 0} (test : A → Token → Bool) (F : A → Token → After Token Name Value begin A) where
    steps_shrink : (b : A) (t : Token) → Shrinks (behind (F b t))
    steps_shrink b t = after_shrinks (allows_at allows depth) (reading rules allows depth) (shrinks rules allows depth) (F b t)

    pub many_turns : (a b : A) (t : Token) (ts mid : List Token) → test a t ≡ true → behind (F a t) ts ≡ Got b mid → under (many test F a) (t ∷ ts) ≡ under (many test F b) mid
    many_turns a b t ts mid h e = loop_turn test (λ b t. behind (F b t)) steps_shrink a b t ts mid h e

    pub many_stops : (a : A) (t : Token) (ts rest : List Token) → test a t ≡ true → behind (F a t) ts ≡ Stop rest → under (many test F a) (t ∷ ts) ≡ Stop rest
    many_stops a t ts rest h e = if_true (and_then (behind (F a t) ts) (loop test (λ b t. behind (F b t)) (length ts))) (Got a (t ∷ ts)) h ∙ ap (λ o. and_then o (loop test (λ b t. behind (F b t)) (length ts))) e

    pub many_deepens : (a : A) (t : Token) (ts rest : List Token) → test a t ≡ true → behind (F a t) ts ≡ Deep rest → under (many test F a) (t ∷ ts) ≡ Deep rest
    many_deepens a t ts rest h e = if_true (and_then (behind (F a t) ts) (loop test (λ b t. behind (F b t)) (length ts))) (Got a (t ∷ ts)) h ∙ ap (λ o. and_then o (loop test (λ b t. behind (F b t)) (length ts))) e

    pub many_ends : (a : A) (t : Token) (ts : List Token) → test a t ≡ false → under (many test F a) (t ∷ ts) ≡ Got a (t ∷ ts)
    many_ends a t ts h = if_false (and_then (behind (F a t) ts) (loop test (λ b t. behind (F b t)) (length ts))) (Got a (t ∷ ts)) h

  pub got_shorter : {b : Begin} {A : Type 0} (F : After Token Name Value b A) (ts : List Token) (v : A) (rest : List Token) → behind F ts ≡ Got v rest → length rest ≤ length ts
  got_shorter F ts v rest e =
      let k : length (left (behind F ts)) ≤ length ts = end_length (after_shrinks (allows_at allows depth) (reading rules allows depth) (shrinks rules allows depth) F ts) in
      let l : length (left (behind F ts)) ≡ length rest = ap length (ap left e) in omega arith
