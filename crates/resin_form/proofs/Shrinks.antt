-- Reading takes tokens from the front: what is left is an end of what was there.
use Rattle.std.proofs.Common.{◌≡◌, ℕ, zero, suc, ◌≤◌, Bool, true, false, List, [], ◌∷◌, ◌++◌, length, refl, sym, ◌∙◌, ap, arith, length-append, append_assoc}
use Rattle.std.specs.Prelude.{if◌then◌else◌}
use Rattle.resin_form.specs.Form.{Begin, Form, give, andthen, next, maybe, many, Weight, After, plain, limited, followed, call}
use Rattle.resin_form.specs.Reading.{Outcome, Got, Stop, Deep, Reader, and_then, left, loop, read, read_after}

-- ts are some tokens, and then rest
pub record IsEnd {Token : Type 0} (rest ts : List Token) : Type 0 where
  pub front : List Token
  pub whole : ts ≡ front ++ rest

pub same : {Token : Type 0} (ts : List Token) → IsEnd ts ts
same ts = record { front = []; whole = refl }

pub longer : {Token : Type 0} {rest ts : List Token} (t : Token) → IsEnd rest ts → IsEnd rest (t ∷ ts)
longer t e = record { front = t ∷ e.front; whole = ap (λ xs. t ∷ xs) e.whole }

pub along : {Token : Type 0} {a b c : List Token} → IsEnd b c → IsEnd a b → IsEnd a c
along d e = record { front = d.front ++ e.front; whole = d.whole ∙ ap (λ xs. d.front ++ xs) e.whole ∙ sym (append_assoc d.front e.front _) }

pub end_length : {Token : Type 0} {rest ts : List Token} → IsEnd rest ts → length rest ≤ length ts
end_length {rest = rest} {ts = ts} e = omega (arith, ap length e.whole, length-append e.front rest)

abbrev pub Shrinks : {Token A : Type 0} → Reader Token A → Type 0
Shrinks {Token} p = (ts : List Token) → IsEnd (left (p ts)) ts

pub then_shrinks : {Token A B : Type 0} (o : Outcome Token B) (f : B → Reader Token A) (ts : List Token) → IsEnd (left o) ts → ((b : B) → Shrinks (f b)) → IsEnd (left (and_then o f)) ts
then_shrinks (Got b mid) f ts here there = along here (there b mid)
then_shrinks (Stop r) f ts here there = here
then_shrinks (Deep r) f ts here there = here

pub if_shrinks : {Token A : Type 0} (b : Bool) (x y : Outcome Token A) (ts : List Token) → IsEnd (left x) ts → IsEnd (left y) ts → IsEnd (left (if b then x else y)) ts
if_shrinks true x y ts ex ey = ex
if_shrinks false x y ts ex ey = ey

pub loop_shrinks : {Token A : Type 0} (test : A → Token → Bool) (step : A → Token → Reader Token A) → ((b : A) (t : Token) → Shrinks (step b t)) → (n : ℕ) (a : A) → Shrinks (loop test step n a)
loop_shrinks test step each zero a ts = same ts
loop_shrinks test step each (suc n) a [] = same []
loop_shrinks test step each (suc n) a (t ∷ ts) =
    if_shrinks (test a t) _ (Got a (t ∷ ts)) (t ∷ ts) (longer t (then_shrinks (step a t ts) (loop test step n) ts (each a t ts) (loop_shrinks test step each n))) (same (t ∷ ts))

module _ {Token Name : Type 0} {Value : Name → Type 0} (allows : Weight → ℕ → Bool) (calls : (n : Name) → Reader Token (Value n)) (calls_shrink : (n : Name) → Shrinks (calls n)) where
  mutual
    pub read_shrinks : {A : Type 0} (F : Form Token Name Value A) → Shrinks (read allows calls F)
    read_shrinks (give a) ts = same ts
    read_shrinks (andthen F G) ts = then_shrinks (read allows calls F ts) (λ b rest. read allows calls (G b) rest) ts (read_shrinks F ts) (λ b. read_shrinks (G b))
    read_shrinks (next test F) [] = same []
    read_shrinks (next test F) (t ∷ ts) = if_shrinks (test t) (read_after allows calls (F t) ts) (Stop (t ∷ ts)) (t ∷ ts) (longer t (after_shrinks (F t) ts)) (same (t ∷ ts))
    read_shrinks (maybe test F a) [] = same []
    read_shrinks (maybe test F a) (t ∷ ts) = if_shrinks (test t) (read_after allows calls (F t) ts) (Got a (t ∷ ts)) (t ∷ ts) (longer t (after_shrinks (F t) ts)) (same (t ∷ ts))
    read_shrinks (many test F a) ts = loop_shrinks test (λ b t. read_after allows calls (F b t)) (λ b t. after_shrinks (F b t)) (length ts) a ts

    pub after_shrinks : {b : Begin} {A : Type 0} (F : After Token Name Value b A) → Shrinks (read_after allows calls F)
    after_shrinks (plain F) ts = read_shrinks F ts
    after_shrinks (limited w n F) ts = if_shrinks (allows w n) (read_after allows calls F ts) (Deep ts) ts (after_shrinks F ts) (same ts)
    after_shrinks (followed F G) ts = then_shrinks (read_after allows calls F ts) (λ b rest. read allows calls (G b) rest) ts (after_shrinks F ts) (λ b. read_shrinks (G b))
    after_shrinks (call n) ts = calls_shrink n ts
