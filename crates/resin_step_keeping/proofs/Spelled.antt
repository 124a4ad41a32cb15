-- Runs by the places of their sets.
use Rattle.std.proofs.Common.{◌≡◌, ℕ, zero, suc, ◌+◌, ◌-◌, ◌<◌, Bool, true, false, List, [], ◌∷◌, ◌++◌, length, map, drop, get_or, slice_get, None, Some, refl, sym, ap, subst, ◌∙◌, arith, append_assoc, append-nil}
use Rattle.std.specs.Prelude.{Option, replicate, ◌&&◌}
use Rattle.std.specs.List.{flat_map, list_all}
use Rattle.std.specs.Option.{option_map, option_map_or}
use Rattle.std.proofs.lemmas.Bool.{true≢false}
use Rattle.resin_shadow.specs.Parts.{PlacedRun, run_spelled, spelled_by}

pub none_some : {X : Type 0} (x : X) → ◌≡◌ {A = Option X} None (Some x) → ⊥
none_some x e = cc

pub some_is : {X : Type 0} (x y : X) → ◌≡◌ {A = Option X} (Some x) (Some y) → x ≡ y
some_is x y e = cc

pub map-append : {X Y : Type 0} (f : X → Y) (xs ys : List X) → map f (xs ++ ys) ≡ map f xs ++ map f ys
map-append f [] ys = refl
map-append f (x ∷ xs) ys = ap (λ v. f x ∷ v) (map-append f xs ys)

pub map-replicate : {X Y : Type 0} (f : X → Y) (n : ℕ) (x : X) → map f (replicate n x) ≡ replicate n (f x)
map-replicate f zero x = refl
map-replicate f (suc n) x = ap (λ v. f x ∷ v) (map-replicate f n x)

pub slice-map : {X Y : Type 0} (f : X → Y) (xs : List X) (n : ℕ) → slice_get (map f xs) n ≡ option_map f (slice_get xs n)
slice-map f [] n = refl
slice-map f (x ∷ xs) zero = refl
slice-map f (x ∷ xs) (suc n) = slice-map f xs n

pub slice-front : {X : Type 0} (xs ys : List X) (n : ℕ) (x : X) → slice_get xs n ≡ Some x → slice_get (xs ++ ys) n ≡ Some x
slice-front [] ys n x e = absurd (none_some x e)
slice-front (y ∷ xs) ys zero x e = e
slice-front (y ∷ xs) ys (suc n) x e = slice-front xs ys n x e

placed_map : {X Y : Type 0} (f : X → Y) (n : ℕ) (o : Option X) → option_map_or (replicate n) (option_map f o) [] ≡ map f (option_map_or (replicate n) o [])
placed_map f n None = refl
placed_map f n (Some x) = sym (map-replicate f n x)

-- what is said of each set is said of the set of each byte
pub spelled-map : {X Y : Type 0} (f : X → Y) (sets : List X) (runs : List PlacedRun) → spelled_by (map f sets) runs ≡ map f (spelled_by sets runs)
spelled-map f sets [] = refl
spelled-map f sets (r ∷ rs) =
    ap (λ o. option_map_or (replicate r.0) o [] ++ spelled_by (map f sets) rs) (slice-map f sets r.1)
    ∙ ap (λ v. v ++ spelled_by (map f sets) rs) (placed_map f r.0 (slice_get sets r.1))
    ∙ ap (λ v. map f (run_spelled sets r) ++ v) (spelled-map f sets rs)
    ∙ sym (map-append f (run_spelled sets r) (spelled_by sets rs))

pub spelled-push : {X : Type 0} (sets : List X) (runs : List PlacedRun) (r : PlacedRun) → spelled_by sets (runs ++ r ∷ []) ≡ spelled_by sets runs ++ run_spelled sets r
spelled-push sets [] r = append-nil (run_spelled sets r)
spelled-push sets (q ∷ runs) r = ap (λ v. run_spelled sets q ++ v) (spelled-push sets runs r) ∙ sym (append_assoc (run_spelled sets q) (spelled_by sets runs) (run_spelled sets r))

pub run_is : {X : Type 0} (sets : List X) (n place : ℕ) (x : X) → slice_get sets place ≡ Some x → run_spelled sets (n, place) ≡ replicate n x
run_is sets n place x e = ap (λ o. option_map_or (replicate n) o []) e

pub all-append : {X : Type 0} (p : X → Bool) (xs ys : List X) → list_all p (xs ++ ys) ≡ (list_all p xs && list_all p ys)
all-append p [] ys = refl
all-append p (x ∷ xs) ys = by (p x) (all-append p xs ys)
  where
    by : (b : Bool) → list_all p (xs ++ ys) ≡ (list_all p xs && list_all p ys) → (b && list_all p (xs ++ ys)) ≡ ((b && list_all p xs) && list_all p ys)
    by true e = e
    by false e = refl

pub both_true : (a b : Bool) → (a && b) ≡ true → (a ≡ true) × (b ≡ true)
both_true true b e = (refl, e)
both_true false b e = absurd (true≢false (sym e))

pub first_of_same : {X : Type 0} (p : X → Bool) (n : ℕ) (x : X) → 0 < n → list_all p (replicate n x) ≡ true → p x ≡ true
first_of_same p zero x h e = absurd (omega arith)
first_of_same p (suc n) x h e = (both_true (p x) (list_all p (replicate n x)) e).0
