-- One more turn of a loop.
use Rattle.std.proofs.Common.{◌≡◌, ℕ, zero, suc, ◌+◌, ◌<◌, List, [], ◌∷◌, ◌++◌, length, take, get_or, Some, None, refl, sym, ap, ◌∙◌, arith, append_assoc, append-nil}
use Rattle.std.specs.List.{fold, flat_map}
use Rattle.resin_frozen.specs.Reading.{Read, and_then}
use Rattle.resin_frozen.proofs.Parts.{on}
use Rattle.resin_shadow.specs.Readers.{times}
use Rattle.resin_shadow.proofs.First_met.{fold-append}

pub turn : {A : Type 0} (step : A → Read A) (n m : ℕ) (a b : A) (xs ys : List ℕ) → n ≡ m + 1 → step a xs ≡ Some (b, ys) → times step m b ys ≡ times step n a xs
turn step zero m a b xs ys n e = absurd (omega arith)
turn step (suc k) m a b xs ys n e = let same : m ≡ k = omega arith in ap (λ i. times step i b ys) same ∙ sym (on (λ p. times step k p.0 p.1) e)

pub fails : {A : Type 0} (step : A → Read A) (n : ℕ) (a : A) (xs : List ℕ) → 0 < n → step a xs ≡ None → times step n a xs ≡ None
fails step zero a xs h e = absurd (omega arith)
fails step (suc n) a xs h e = ap (λ o. and_then o (λ p. times step n p.0 p.1)) e

pub ends : {A : Type 0} (step : A → Read A) (n : ℕ) (a : A) (xs : List ℕ) → n ≡ 0 → times step n a xs ≡ Some (a, xs)
ends step zero a xs e = refl
ends step (suc n) a xs e = absurd (omega arith)

next : {X : Type 0} (xs : List X) (i : ℕ) (d : X) → i < length xs → take (suc i) xs ≡ take i xs ++ get_or xs i d ∷ []
next [] i d h = absurd (omega arith)
next (x ∷ xs) zero d h = refl
next (x ∷ xs) (suc i) d h = ap (λ ys. x ∷ ys) (next xs i d (omega arith))

pub take_next : {X : Type 0} (xs : List X) (i : ℕ) (d : X) → i < length xs → take (i + 1) xs ≡ take i xs ++ get_or xs i d ∷ []
take_next xs i d h = ap (λ n. take n xs) (let e : i + 1 ≡ suc i = omega arith in e) ∙ next xs i d h

pub fold_next : {X Y : Type 0} (f : Y → X → Y) (y : Y) (xs : List X) (i : ℕ) (d : X) → i < length xs → fold f y (take (i + 1) xs) ≡ f (fold f y (take i xs)) (get_or xs i d)
fold_next f y xs i d h = ap (fold f y) (take_next xs i d h) ∙ fold-append f y (take i xs) (get_or xs i d ∷ [])

flat-append : {X : Type 0} (f : X → List ℕ) (xs ys : List X) → flat_map f (xs ++ ys) ≡ flat_map f xs ++ flat_map f ys
flat-append f [] ys = refl
flat-append f (x ∷ xs) ys = ap (λ v. f x ++ v) (flat-append f xs ys) ∙ sym (append_assoc (f x) (flat_map f xs) (flat_map f ys))

-- one more item is written
pub text_next : {X : Type 0} (f : X → List ℕ) (old text new : List ℕ) (xs : List X) (i : ℕ) (d : X) → i < length xs → text ≡ old ++ flat_map f (take i xs) → new ≡ text ++ f (get_or xs i d)
    → new ≡ old ++ flat_map f (take (i + 1) xs)
text_next f old text new xs i d h e n =
    n ∙ ap (λ t. t ++ f (get_or xs i d)) e ∙ append_assoc old (flat_map f (take i xs)) (f (get_or xs i d))
    ∙ ap (λ t. old ++ t) (sym (ap (flat_map f) (take_next xs i d h) ∙ flat-append f (take i xs) (get_or xs i d ∷ []) ∙ ap (λ z. flat_map f (take i xs) ++ z) (append-nil (f (get_or xs i d)))))
