-- With wider limits reading goes as it went, up to where it met a limit.
use Rattle.std.proofs.Common.{◌≡◌, ℕ, zero, suc, Bool, true, false, List, [], ◌∷◌, length, refl, sym, subst}
use Rattle.std.specs.Prelude.{if◌then◌else◌}
use Rattle.resin_form.specs.Form.{Begin, Form, give, andthen, next, maybe, many, Weight, After, plain, limited, followed, call}
use Rattle.resin_form.specs.Reading.{Outcome, Got, Stop, Deep, Reader, and_then, left, loop, read, read_after}
use Rattle.resin_form.proofs.Shrinks.{IsEnd, same, Shrinks, then_shrinks, loop_shrinks, read_shrinks, after_shrinks}

abbrev pub Grows : {Token A : Type 0} → Outcome Token A → Outcome Token A → Type 0
Grows (Got v rest) wider = wider ≡ Got v rest
Grows (Stop rest) wider = wider ≡ Stop rest
Grows (Deep rest) wider = IsEnd (left wider) rest

module _ {Token A B : Type 0} (f g : B → Reader Token A) (g_shrinks : (b : B) → Shrinks (g b)) where
  then_grows : (o wide : Outcome Token B) → Grows o wide → ((b : B) (mid : List Token) → Grows (f b mid) (g b mid)) → Grows (and_then o f) (and_then wide g)
  then_grows (Got b mid) wide h both = subst (λ l. Grows (f b mid) (and_then l g)) (sym h) (both b mid)
  then_grows (Stop rest) wide h both = subst (λ l. Grows {A = A} (Stop rest) (and_then l g)) (sym h) refl
  then_grows (Deep rest) wide h both = then_shrinks wide g rest h g_shrinks

if_grows : {Token A : Type 0} (b : Bool) (x y x' y' : Outcome Token A) → Grows x x' → Grows y y' → Grows (if b then x else y) (if b then x' else y')
if_grows true x y x' y' ex ey = ex
if_grows false x y x' y' ex ey = ey

-- `wide`: what passed a test passes the wider one
limit_grows : {Token A : Type 0} (b c : Bool) (x x' : Outcome Token A) (ts : List Token) → (b ≡ true → c ≡ true) → Grows x x' → IsEnd (left x') ts → Grows (if b then x else Deep ts) (if c then x' else Deep ts)
limit_grows true true x x' ts h g e = g
limit_grows true false x x' ts h g e = (let k : false ≡ true = h refl in cc)
limit_grows false true x x' ts h g e = e
limit_grows false false x x' ts h g e = same ts

module _ {Token A : Type 0} (test : A → Token → Bool) (step wide : A → Token → Reader Token A) (wide_shrinks : (b : A) (t : Token) → Shrinks (wide b t)) (each : (b : A) (t : Token) (ts : List Token) → Grows (step b t ts) (wide b t ts)) where
  loop_grows : (n : ℕ) (a : A) (ts : List Token) → Grows (loop test step n a ts) (loop test wide n a ts)
  loop_grows zero a ts = refl
  loop_grows (suc n) a [] = refl
  loop_grows (suc n) a (t ∷ ts) = if_grows (test a t) (and_then (step a t ts) (loop test step n)) (Got a (t ∷ ts)) (and_then (wide a t ts) (loop test wide n)) (Got a (t ∷ ts))
      (then_grows (loop test step n) (loop test wide n) (loop_shrinks test wide wide_shrinks n) (step a t ts) (wide a t ts) (each a t ts) (loop_grows n)) refl

module _ {Token Name : Type 0} {Value : Name → Type 0} (a c : Weight → ℕ → Bool) (calls wider : (n : Name) → Reader Token (Value n)) (wide : (w : Weight) (n : ℕ) → a w n ≡ true → c w n ≡ true) (wider_shrinks : (n : Name) → Shrinks (wider n)) (calls_grow : (n : Name) (ts : List Token) → Grows (calls n ts) (wider n ts)) where
  mutual
    pub read_grows : {A : Type 0} (F : Form Token Name Value A) (ts : List Token) → Grows (read a calls F ts) (read c wider F ts)
    read_grows (give v) ts = refl
    read_grows (andthen F G) ts = then_grows (λ b rest. read a calls (G b) rest) (λ b rest. read c wider (G b) rest) (λ b. read_shrinks c wider wider_shrinks (G b)) (read a calls F ts) (read c wider F ts) (read_grows F ts) (λ b mid. read_grows (G b) mid)
    read_grows (next test F) [] = refl
    read_grows (next test F) (t ∷ ts) = if_grows (test t) (read_after a calls (F t) ts) (Stop (t ∷ ts)) (read_after c wider (F t) ts) (Stop (t ∷ ts)) (after_grows (F t) ts) refl
    read_grows (maybe test F v) [] = refl
    read_grows (maybe test F v) (t ∷ ts) = if_grows (test t) (read_after a calls (F t) ts) (Got v (t ∷ ts)) (read_after c wider (F t) ts) (Got v (t ∷ ts)) (after_grows (F t) ts) refl
    read_grows (many test F v) ts = loop_grows test (λ b t. read_after a calls (F b t)) (λ b t. read_after c wider (F b t)) (λ b t. after_shrinks c wider wider_shrinks (F b t)) (λ b t ts. after_grows (F b t) ts) (length ts) v ts

    pub after_grows : {b : Begin} {A : Type 0} (F : After Token Name Value b A) (ts : List Token) → Grows (read_after a calls F ts) (read_after c wider F ts)
    after_grows (plain F) ts = read_grows F ts
    after_grows (limited w n F) ts = limit_grows (a w n) (c w n) (read_after a calls F ts) (read_after c wider F ts) ts (wide w n) (after_grows F ts) (after_shrinks c wider wider_shrinks F ts)
    after_grows (followed F G) ts = then_grows (λ b rest. read a calls (G b) rest) (λ b rest. read c wider (G b) rest) (λ b. read_shrinks c wider wider_shrinks (G b)) (read_after a calls F ts) (read_after c wider F ts) (after_grows F ts) (λ b mid. read_grows (G b) mid)
    after_grows (call n) ts = calls_grow n ts
