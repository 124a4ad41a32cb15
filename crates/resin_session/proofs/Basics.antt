-- Tests, and values that are read one behind another.
use Rattle.std.proofs.Common.{◌≡◌, ℕ, ◌<◌, ◌≤◌, Bool, true, false, cond, List, [], ◌∷◌, Option, Some, None, refl, ap, ◌∙◌, arith}
use Rattle.std.specs.Prelude.{◌&&◌, nat_eq, nat_le, nat_lt}
use Rattle.std.specs.Cmp.Lexicographic.{pointwise}
use Rattle.std.proofs.lemmas.Bool.Decides.{nat_tests}
use Rattle.resin_session.specs.Reading.{and_then}

pub and_left : (a b : Bool) → (a && b) ≡ true → a ≡ true
and_left true b h = refl
and_left false b h = absurd (cc)

pub and_right : (a b : Bool) → (a && b) ≡ true → b ≡ true
and_right true b h = h
and_right false b h = absurd (cc)

pub both : (a b : Bool) → a ≡ true → b ≡ true → (a && b) ≡ true
both a b h k = ap (λ x. x && b) h ∙ k

pub text_same : (xs : List ℕ) → pointwise nat_eq xs xs ≡ true
text_same [] = refl
text_same (x ∷ xs) = let e : nat_eq x x ≡ true = grind (arith, nat_tests) in ap (λ b. b && pointwise nat_eq xs xs) e ∙ text_same xs

pub text_is : (xs ys : List ℕ) → pointwise nat_eq xs ys ≡ true → xs ≡ ys
text_is [] [] h = refl
text_is [] (y ∷ ys) h = absurd (cc)
text_is (x ∷ xs) [] h = absurd (cc)
text_is (x ∷ xs) (y ∷ ys) h =
    let e : x ≡ y = let t = and_left (nat_eq x y) (pointwise nat_eq xs ys) h in grind (arith, nat_tests) in
    ap (λ z. z ∷ xs) e ∙ ap (λ zs. y ∷ zs) (text_is xs ys (and_right (nat_eq x y) (pointwise nat_eq xs ys) h))

pub le_true : (a b : ℕ) → a ≤ b → nat_le a b ≡ true
le_true a b h = grind (arith, nat_tests)

pub lt_true : (a b : ℕ) → a < b → nat_lt a b ≡ true
lt_true a b h = grind (arith, nat_tests)

pub from_some : {A : Type 0} (a b : A) → Some a ≡ Some b → a ≡ b
from_some a b e = cc

pub none_some : {A : Type 0} (a : A) → None ≡ Some a → ⊥
none_some a e = cc

pub some_if : {A : Type 0} (b : Bool) (a r : A) → cond b (Some a) None ≡ Some r → (b ≡ true) × (a ≡ r)
some_if true a r e = (refl, from_some a r e)
some_if false a r e = absurd (none_some r e)

-- a choice that gives a value
pub chosen : {A : Type 0} (b : Bool) (o : Option A) (r : A) → cond b o None ≡ Some r → (b ≡ true) × (o ≡ Some r)
chosen true o r e = (refl, e)
chosen false o r e = absurd (none_some r e)

-- a value that was read behind another
pub bound : {A B : Type 0} (o : Option A) (f : A → Option B) (r : B) → and_then o f ≡ Some r → (a : A) × (o ≡ Some a) × (f a ≡ Some r)
bound None f r e = absurd (none_some r e)
bound (Some a) f r e = (a, refl, e)

-- what follows goes on where the first is read
pub on : {A B : Type 0} {o : Option A} {a : A} (f : A → Option B) → o ≡ Some a → and_then o f ≡ f a
on f e = ap (λ o. and_then o f) e
