-- Where any construct may open and the names meet no limit on shorter lists, reading meets none.
use Rattle.std.proofs.Common.{◌≡◌, ℕ, zero, suc, ◌≤◌, ◌<◌, Bool, true, false, List, [], ◌∷◌, length, arith}
use Rattle.std.specs.Prelude.{if◌then◌else◌}
use Rattle.resin_form.specs.Form.{Begin, Own, Named, Form, give, andthen, next, maybe, many, Weight, After, plain, limited, followed, call}
use Rattle.resin_form.specs.Reading.{Outcome, Got, Stop, Deep, Reader, and_then, left, loop, read, read_after}
use Rattle.resin_form.proofs.Shrinks.{end_length, Shrinks, read_shrinks, after_shrinks}
use Rattle.resin_form.proofs.Local.{IsSettled, if_settled}

-- on lists up to this length no limit is met
abbrev pub IsSafe : {Token A : Type 0} → Reader Token A → ℕ → Type 0
IsSafe {Token} p n = (ts : List Token) → length ts ≤ n → IsSettled (p ts)

then_safe : {Token A B : Type 0} (o : Outcome Token B) (f : B → Reader Token A) (n : ℕ) → IsSettled o → length (left o) ≤ n → ((b : B) → IsSafe (f b) n) → IsSettled (and_then o f)
then_safe (Got b mid) f n s h each = each b mid h
then_safe (Stop r) f n s h each = tt
then_safe (Deep r) f n s h each = s

loop_safe : {Token A : Type 0} (test : A → Token → Bool) (step : A → Token → Reader Token A) → ((b : A) (t : Token) → Shrinks (step b t)) → (m : ℕ) → ((b : A) (t : Token) (ts : List Token) → suc (length ts) ≤ m → IsSettled (step b t ts)) → (n : ℕ) (a : A) → IsSafe (loop test step n a) m
loop_safe test step shrinks m each zero a ts h = tt
loop_safe test step shrinks m each (suc n) a [] h = tt
loop_safe test step shrinks m each (suc n) a (t ∷ ts) h =
    if_settled (test a t) (and_then (step a t ts) (loop test step n)) (Got a (t ∷ ts))
    (then_safe (step a t ts) (loop test step n) m (each a t ts (omega arith)) (let k : length (left (step a t ts)) ≤ length ts = end_length (shrinks a t ts) in omega arith) (loop_safe test step shrinks m each n)) tt

opened : {Token A : Type 0} (b : Bool) (x : Outcome Token A) (ts : List Token) → b ≡ true → IsSettled x → IsSettled (if b then x else Deep ts)
opened true x ts e s = s
opened false x ts e s = (let k : false ≡ true = e in cc)

module _ {Token Name : Type 0} {Value : Name → Type 0} (allows : Weight → ℕ → Bool) (all : (w : Weight) (n : ℕ) → allows w n ≡ true) (calls : (n : Name) → Reader Token (Value n)) (calls_shrink : (n : Name) → Shrinks (calls n)) where
  -- names are safe on all that is left after a token, where they may come at once
  abbrev room : Begin → ℕ → ℕ
  room Own n = n
  room Named n = suc n

  abbrev pub CallsSafe : ℕ → Type 0
  CallsSafe n = (m : Name) (ts : List Token) → length ts < n → IsSettled (calls m ts)

  fewer : (b : Begin) (n : ℕ) → CallsSafe (room b n) → CallsSafe n
  fewer Own n safe = safe
  fewer Named n safe = λ m ts k. safe m ts (omega arith)

  entered : (b : Begin) (n : ℕ) → CallsSafe (suc n) → CallsSafe (room b n)
  entered Own n safe = λ m ts k. safe m ts (omega arith)
  entered Named n safe = safe

  mutual
    pub read_safe : {A : Type 0} (F : Form Token Name Value A) (n : ℕ) → CallsSafe n → IsSafe (read allows calls F) n
    read_safe (give a) n safe ts h = tt
    read_safe (andthen F G) n safe ts h = then_safe (read allows calls F ts) (λ b rest. read allows calls (G b) rest) n (read_safe F n safe ts h) (let k : length (left (read allows calls F ts)) ≤ length ts = end_length (read_shrinks allows calls calls_shrink F ts) in omega arith) (λ b. read_safe (G b) n safe)
    read_safe (next test F) n safe [] h = tt
    read_safe (next test F) zero safe (t ∷ ts) h = absurd (omega arith)
    read_safe (next {begin = b} test F) (suc n) safe (t ∷ ts) h = if_settled (test t) (read_after allows calls (F t) ts) (Stop (t ∷ ts)) (after_safe (F t) n (entered b n safe) ts (omega arith)) tt
    read_safe (maybe test F a) n safe [] h = tt
    read_safe (maybe test F a) zero safe (t ∷ ts) h = absurd (omega arith)
    read_safe (maybe {begin = b} test F a) (suc n) safe (t ∷ ts) h = if_settled (test t) (read_after allows calls (F t) ts) (Got a (t ∷ ts)) (after_safe (F t) n (entered b n safe) ts (omega arith)) tt
    read_safe (many test F a) zero safe ts h = loop_safe test (λ b t. read_after allows calls (F b t)) (λ b t. after_shrinks allows calls calls_shrink (F b t)) zero (λ b t us k. absurd (omega arith)) (length ts) a ts h
    read_safe (many {begin = e} test F a) (suc n) safe ts h = loop_safe test (λ b t. read_after allows calls (F b t)) (λ b t. after_shrinks allows calls calls_shrink (F b t)) (suc n) (λ b t us k. after_safe (F b t) n (entered e n safe) us (omega arith)) (length ts) a ts h

    -- after a token of n + 1
    pub after_safe : {b : Begin} {A : Type 0} (F : After Token Name Value b A) (n : ℕ) → CallsSafe (room b n) → IsSafe (read_after allows calls F) n
    after_safe {b = b} (plain F) n safe ts h = read_safe F n (fewer b n safe) ts h
    after_safe (limited w m F) n safe ts h = opened (allows w m) (read_after allows calls F ts) ts (all w m) (after_safe F n safe ts h)
    after_safe {b = b} (followed F G) n safe ts h = then_safe (read_after allows calls F ts) (λ v rest. read allows calls (G v) rest) n (after_safe F n safe ts h) (let k : length (left (read_after allows calls F ts)) ≤ length ts = end_length (after_shrinks allows calls calls_shrink F ts) in omega arith) (λ v. read_safe (G v) n (fewer b n safe))
    after_safe (call m) n safe ts h = safe m ts (omega arith)
