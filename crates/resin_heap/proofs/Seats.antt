-- Elements of lists by their places.
use Rattle.std.proofs.Common.{◌≡◌, ℕ, zero, suc, ◌+◌, ◌<◌, ◌≤◌, Bool, true, false, cond, List, [], ◌∷◌, ◌++◌, length, slice_get, refl, sym, ap, ◌∙◌, arith, Option, Some, None}
use Rattle.std.specs.Prelude.{position, is_some, if◌then◌else◌, Result, Ok, Err, OnOk, OnErr, IfSome}
use Rattle.std.specs.Option.{option_or}
use Rattle.std.specs.List.{position_from}
use Rattle.std.proofs.lemmas.Iterator.Adapters.{position_from-zero}

pub get_left : {X : Type 0} (xs ys : List X) (i : ℕ) → i < length xs → slice_get (xs ++ ys) i ≡ slice_get xs i
get_left [] ys i h = absurd (omega arith)
get_left (x ∷ xs) ys zero h = refl
get_left (x ∷ xs) ys (suc i) h = get_left xs ys i (omega arith)

pub get_seam : {X : Type 0} (xs : List X) (y : X) → slice_get (xs ++ y ∷ []) (length xs) ≡ Some y
get_seam [] y = refl
get_seam (x ∷ xs) y = get_seam xs y

pub get_none : {X : Type 0} (xs : List X) (i : ℕ) → slice_get xs i ≡ None → length xs ≤ i
get_none [] i h = omega arith
get_none (x ∷ xs) zero h = cc
get_none (x ∷ xs) (suc i) h = omega (arith, get_none xs i h)

pub get_some : {X : Type 0} (xs : List X) (i : ℕ) (x : X) → slice_get xs i ≡ Some x → i < length xs
get_some [] i x h = cc
get_some (y ∷ xs) zero x h = omega arith
get_some (y ∷ xs) (suc i) x h = omega (arith, get_some xs i x h)

pub get_is_some : {X : Type 0} (xs : List X) (i : ℕ) → i < length xs → is_some (slice_get xs i) ≡ true
get_is_some [] i h = absurd (omega arith)
get_is_some (x ∷ xs) zero h = refl
get_is_some (x ∷ xs) (suc i) h = get_is_some xs i (omega arith)

-- the first place once one more element stands last
from_push : {X : Type 0} (p : X → Bool) (n : ℕ) (xs : List X) (y : X) → position_from p n (xs ++ y ∷ []) ≡ option_or (position_from p n xs) (if p y then Some (n + length xs) else None)
from_push p n [] y = ap (λ k. if p y then Some k else None) (let e : n ≡ n + 0 = omega arith in e)
from_push p n (x ∷ xs) y =
    elim (p x) as (λ b. cond b (Some n) (position_from p (n + 1) (xs ++ y ∷ [])) ≡ option_or (cond b (Some n) (position_from p (n + 1) xs)) (if p y then Some (n + length (x ∷ xs)) else None)) [
      | true ↦ refl
      | false ↦ from_push p (n + 1) xs y ∙ ap (λ k. option_or (position_from p (n + 1) xs) (if p y then Some k else None)) (let e : (n + 1) + length xs ≡ n + suc (length xs) = omega arith in e)
    ]

pub position_push : {X : Type 0} (p : X → Bool) (xs : List X) (y : X) → position p (xs ++ y ∷ []) ≡ option_or (position p xs) (if p y then Some (length xs) else None)
position_push p xs y =
    position_from-zero p (xs ++ y ∷ [])
    ∙ from_push p 0 xs y
    ∙ (λ i. option_or (sym (position_from-zero p xs) i) (if p y then Some (zero_plus i) else None))
  where
    zero_plus : 0 + length xs ≡ length xs
    zero_plus = omega arith

pub none_of : {X : Type 0} (o : Option X) → is_some o ≡ false → o ≡ None
none_of None h = refl
none_of (Some x) h = cc

-- what holds either way
pub either_way : {T E A B P : Type 0} (r : Result T E) → OnOk r A → OnErr r B → (A → P) → (B → P) → P
either_way (Ok x) a b f g = f a
either_way (Err e) a b f g = g b

pub some_below : (o : Option ℕ) (a n : ℕ) → IfSome o (λ p. p < a) → a < n → IfSome o (λ p. p < n)
some_below None a n h g = tt
some_below (Some p) a n h g = omega arith
