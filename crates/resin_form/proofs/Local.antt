-- Reading more tokens goes as it went, up to where it ran out of them.
use Rattle.std.proofs.Common.{◌≡◌, ℕ, zero, suc, ◌≤◌, ◌<◌, Bool, true, false, List, [], ◌∷◌, ◌++◌, ◌⊎◌, inl, inr, length, refl, sym, ap, subst, arith, length-append}
use Rattle.std.specs.Prelude.{if◌then◌else◌}
use Rattle.resin_form.specs.Form.{Begin, Form, give, andthen, next, maybe, many, Weight, After, plain, limited, followed, call}
use Rattle.resin_form.specs.Reading.{Outcome, Got, Stop, Deep, Reader, and_then, left, loop, read, read_after}
use Rattle.resin_form.proofs.Shrinks.{IsEnd, same, longer, end_length, Shrinks, then_shrinks, loop_shrinks, read_shrinks, after_shrinks}

-- the same, with more tokens left
abbrev pub grow : {Token A : Type 0} → Outcome Token A → List Token → Outcome Token A
grow (Got v rest) extra = Got v (rest ++ extra)
grow (Stop rest) extra = Stop (rest ++ extra)
grow (Deep rest) extra = Deep (rest ++ extra)

-- no limit is met
abbrev pub IsSettled : {Token A : Type 0} → Outcome Token A → Type 0
IsSettled (Got v r) = Unit {0}
IsSettled (Stop r) = Unit {0}
IsSettled (Deep r) = ⊥

-- It goes on as it was, unless it ran out of tokens and takes some of those that come.
abbrev pub Extends : {Token A : Type 0} → Outcome Token A → List Token → Outcome Token A → Type 0
Extends o extra longer = (longer ≡ grow o extra) ⊎ (IsSettled o × (left o ≡ []) × (length (left longer) < length extra))

-- no limit is met before a token is taken
abbrev pub Late : {Token A : Type 0} → Reader Token A → Type 0
Late p = IsSettled (p [])

abbrev pub Local : {Token A : Type 0} → Reader Token A → Type 0
Local {Token} p = (ts extra : List Token) → Extends (p ts) extra (p (ts ++ extra))

none_before : {Token : Type 0} {rest : List Token} → IsEnd rest [] → rest ≡ []
none_before {rest = []} e = refl
none_before {rest = t ∷ ts} e = absurd (omega (arith, end_length e))

end_of_none : {Token : Type 0} (rest ts : List Token) → ts ≡ [] → IsEnd rest ts → rest ≡ []
end_of_none rest ts e h = none_before (subst (λ us. IsEnd rest us) e h)

then_end : {Token A B : Type 0} (o : Outcome Token B) (f : B → Reader Token A) → ((b : B) → Shrinks (f b)) → IsEnd (left (and_then o f)) (left o)
then_end o f each = then_shrinks o f (left o) (same (left o)) each

then_settled : {Token A B : Type 0} (o : Outcome Token B) (f : B → Reader Token A) → IsSettled o → left o ≡ [] → ((b : B) → Late (f b)) → IsSettled (and_then o f)
then_settled (Got b mid) f s e late = subst (λ ts. IsSettled (f b ts)) (sym e) (late b)
then_settled (Stop r) f s e late = tt
then_settled (Deep r) f s e late = s

module _ {Token A B : Type 0} (f g : B → Reader Token A) (f_shrinks : (b : B) → Shrinks (f b)) (g_shrinks : (b : B) → Shrinks (g b)) (f_late : (b : B) → Late (f b)) (extra : List Token) where
  then_extends : (o long : Outcome Token B) → Extends o extra long → ((b : B) (mid : List Token) → o ≡ Got b mid → Extends (f b mid) extra (g b (mid ++ extra))) → Extends (and_then o f) extra (and_then long g)
  then_extends (Got b mid) long (inl e) both = subst (λ l. Extends (f b mid) extra (and_then l g)) (sym e) (both b mid refl)
  then_extends (Stop rest) long (inl e) both = subst (λ l. Extends {A = A} (Stop rest) extra (and_then l g)) (sym e) (inl refl)
  then_extends (Deep rest) long (inl e) both = subst (λ l. Extends {A = A} (Deep rest) extra (and_then l g)) (sym e) (inl refl)
  then_extends o long (inr h) both = inr (
    then_settled o f h.0 h.1 f_late,
    end_of_none (left (and_then o f)) (left o) h.1 (then_end o f f_shrinks),
    let k : length (left (and_then long g)) ≤ length (left long) = end_length (then_end long g g_shrinks) in omega arith,
  )

if_extends : {Token A : Type 0} (b : Bool) (x y x' y' : Outcome Token A) (extra : List Token) → Extends x extra x' → Extends y extra y' → Extends (if b then x else y) extra (if b then x' else y')
if_extends true x y x' y' extra ex ey = ex
if_extends false x y x' y' extra ex ey = ey

-- Where nothing was left, either goes on with all that is there, or takes some of it.
if_more : {Token A : Type 0} (b : Bool) (a : A) (t : Token) (ts : List Token) (x : Outcome Token A) → IsEnd (left x) ts → Extends (Got a []) (t ∷ ts) (if b then x else Got a (t ∷ ts))
if_more true a t ts x h = inr (tt, refl, let k : length (left x) ≤ length ts = end_length h in omega arith)
if_more false a t ts x h = inl refl

if_stop : {Token A : Type 0} (b : Bool) (t : Token) (ts : List Token) (x : Outcome Token A) → IsEnd (left x) ts → Extends {A = A} (Stop []) (t ∷ ts) (if b then x else Stop (t ∷ ts))
if_stop true t ts x h = inr (tt, refl, let k : length (left x) ≤ length ts = end_length h in omega arith)
if_stop false t ts x h = inl refl

module _ {Token A : Type 0} (test : A → Token → Bool) (step : A → Token → Reader Token A) (each : (b : A) (t : Token) → Shrinks (step b t)) (local : (b : A) (t : Token) → Local (step b t)) (extra : List Token) where
  loop_late : (n : ℕ) (a : A) → Late (loop test step n a)
  loop_late zero a = tt
  loop_late (suc n) a = tt

  shorter : (a b : A) (t : Token) (ts mid : List Token) → step a t ts ≡ Got b mid → length mid ≤ length ts
  shorter a b t ts mid e = let k : length (left (step a t ts)) ≤ length ts = end_length (each a t ts) in let l : length (left (step a t ts)) ≡ length mid = ap length (ap left e) in omega arith

  from_none : (m : ℕ) (a : A) (ys : List Token) → length ys ≤ suc m → Extends (Got a []) ys (loop test step (suc m) a ys)
  from_none m a [] h = inl refl
  from_none m a (x ∷ xs) h = if_more (test a x) a x xs (and_then (step a x xs) (loop test step m)) (then_shrinks (step a x xs) (loop test step m) xs (each a x xs) (loop_shrinks test step each m))

  none_extends : (n m : ℕ) (a : A) → length extra ≤ m → Extends (loop test step n a []) extra (loop test step m a extra)
  none_extends zero zero a h = inl refl
  none_extends (suc n) zero a h = inl refl
  none_extends zero (suc m) a h = from_none m a extra h
  none_extends (suc n) (suc m) a h = from_none m a extra h

  loop_extends : (n m : ℕ) (a : A) (ts : List Token) → length ts ≤ n → length (ts ++ extra) ≤ m → Extends (loop test step n a ts) extra (loop test step m a (ts ++ extra))
  loop_extends n m a [] h k = none_extends n m a k
  loop_extends zero m a (t ∷ ts) h k = absurd (omega arith)
  loop_extends (suc n) zero a (t ∷ ts) h k = absurd (omega arith)
  loop_extends (suc n) (suc m) a (t ∷ ts) h k =
      if_extends (test a t) (and_then (step a t ts) (loop test step n)) (Got a (t ∷ ts)) (and_then (step a t (ts ++ extra)) (loop test step m)) (Got a (t ∷ ts ++ extra)) extra
      (then_extends (loop test step n) (loop test step m) (loop_shrinks test step each n) (loop_shrinks test step each m) (loop_late n) extra (step a t ts) (step a t (ts ++ extra)) (local a t ts extra)
      (λ b mid e. let s : length mid ≤ length ts = shorter a b t ts mid e in loop_extends n m b mid (omega arith) (omega (arith, length-append mid extra, length-append ts extra))))
      (inl refl)

pub if_settled : {Token A : Type 0} (b : Bool) (x y : Outcome Token A) → IsSettled x → IsSettled y → IsSettled (if b then x else y)
if_settled true x y sx sy = sx
if_settled false x y sx sy = sy

opened : {Token A : Type 0} (b : Bool) (x x' : Outcome Token A) (ts extra : List Token) → Extends x extra x' → Extends (if b then x else Deep ts) extra (if b then x' else Deep (ts ++ extra))
opened true x x' ts extra h = h
opened false x x' ts extra h = inl refl

module _ {Token Name : Type 0} {Value : Name → Type 0} (allows : Weight → ℕ → Bool) (calls : (n : Name) → Reader Token (Value n)) (calls_shrink : (n : Name) → Shrinks (calls n)) where
  pub read_late : {A : Type 0} (F : Form Token Name Value A) → Late (read allows calls F)
  read_late (give a) = tt
  read_late (andthen F G) = then_settled (read allows calls F []) (λ b rest. read allows calls (G b) rest) (read_late F) (none_before (read_shrinks allows calls calls_shrink F [])) (λ b. read_late (G b))
  read_late (next test F) = tt
  read_late (maybe test F a) = tt
  read_late (many test F a) = tt

  module _ (calls_local : (n : Name) → Local (calls n)) where
    mutual
      pub read_local : {A : Type 0} (F : Form Token Name Value A) → Local (read allows calls F)
      read_local (give a) ts extra = inl refl
      read_local (andthen F G) ts extra =
          then_extends (λ b rest. read allows calls (G b) rest) (λ b rest. read allows calls (G b) rest) (λ b. read_shrinks allows calls calls_shrink (G b)) (λ b. read_shrinks allows calls calls_shrink (G b)) (λ b. read_late (G b)) extra
          (read allows calls F ts) (read allows calls F (ts ++ extra)) (read_local F ts extra) (λ b mid e. read_local (G b) mid extra)
      read_local (next test F) [] [] = inl refl
      read_local (next test F) [] (x ∷ extra) = if_stop (test x) x extra (read_after allows calls (F x) extra) (after_shrinks allows calls calls_shrink (F x) extra)
      read_local (next test F) (t ∷ ts) extra = if_extends (test t) (read_after allows calls (F t) ts) (Stop (t ∷ ts)) (read_after allows calls (F t) (ts ++ extra)) (Stop (t ∷ ts ++ extra)) extra (after_local (F t) ts extra) (inl refl)
      read_local (maybe test F a) [] [] = inl refl
      read_local (maybe test F a) [] (x ∷ extra) = if_more (test x) a x extra (read_after allows calls (F x) extra) (after_shrinks allows calls calls_shrink (F x) extra)
      read_local (maybe test F a) (t ∷ ts) extra = if_extends (test t) (read_after allows calls (F t) ts) (Got a (t ∷ ts)) (read_after allows calls (F t) (ts ++ extra)) (Got a (t ∷ ts ++ extra)) extra (after_local (F t) ts extra) (inl refl)
      read_local (many test F a) ts extra = loop_extends test (λ b t. read_after allows calls (F b t)) (λ b t. after_shrinks allows calls calls_shrink (F b t)) (λ b t. after_local (F b t)) extra (length ts) (length (ts ++ extra)) a ts (omega arith) (omega arith)

      pub after_local : {b : Begin} {A : Type 0} (F : After Token Name Value b A) → Local (read_after allows calls F)
      after_local (plain F) ts extra = read_local F ts extra
      after_local (limited w n F) ts extra = opened (allows w n) (read_after allows calls F ts) (read_after allows calls F (ts ++ extra)) ts extra (after_local F ts extra)
      after_local (followed F G) ts extra =
          then_extends (λ b rest. read allows calls (G b) rest) (λ b rest. read allows calls (G b) rest) (λ b. read_shrinks allows calls calls_shrink (G b)) (λ b. read_shrinks allows calls calls_shrink (G b)) (λ b. read_late (G b)) extra
          (read_after allows calls F ts) (read_after allows calls F (ts ++ extra)) (after_local F ts extra) (λ b mid e. read_local (G b) mid extra)
      after_local (call n) ts extra = calls_local n ts extra
