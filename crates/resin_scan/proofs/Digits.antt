-- Numbers, as functions and in the grammar.
use Rattle.std.proofs.Common.{◌≡◌, ℕ, ◌+◌, ◌*◌, ◌<◌, ◌≤◌, Bool, true, false, List, [], ◌∷◌, length, Option, Some, None, refl, ◌∙◌, ap, arith}
use Rattle.std.specs.Prelude.{◌==◌, ◌&&◌, nat_lt}
use Rattle.std.specs.List.{fold}
use Rattle.resin_scan.specs.Bytes.{digit}
use Rattle.resin_scan.specs.Lists.{Every}
use Rattle.std.proofs.lemmas.Bool.Decides.{nat_tests}
use Rattle.resin_scan.specs.Numbers.{value_on, digits}
use Rattle.resin_scan.proofs.Runs.{if_true, if_false, choose}
use Rattle.std.proofs.lemmas.Nat.{mul-le}
use Rattle.std.proofs.lemmas.Bool.{ltb-true, lt-ltb}

abbrev pub all : ℕ → ℕ → List ℕ → ℕ
all base n ds = fold (λ v d. base * v + digit d) n ds

grows : (base n : ℕ) (ds : List ℕ) → 0 < base → n ≤ all base n ds
grows base n [] h = omega arith
grows base n (d ∷ ds) h = let i : base * n + digit d ≤ all base (base * n + digit d) ds = grows base (base * n + digit d) ds h in let m : 1 * n ≤ base * n = mul-le 1 n base n h (omega arith) in omega arith

and_true : (a b : Bool) → a ≡ true → b ≡ true → (a && b) ≡ true
and_true a b h k = rw (h, k) refl

pub value_exact : (base limit n : ℕ) (ds : List ℕ) → 0 < base → Every (λ d. nat_lt (digit d) base) ds → all base n ds < limit → value_on base limit (Some n) ds ≡ Some (all base n ds)
value_exact base limit n [] z e h = refl
value_exact base limit n (d ∷ ds) z e h =
    let i : base * n + digit d ≤ all base (base * n + digit d) ds = grows base (base * n + digit d) ds z in
    let low : nat_lt (base * n + digit d) limit ≡ true = lt-ltb _ _ (omega arith) in
    ap (λ o. value_on base limit o ds) (if_true (nat_lt (digit d) base && nat_lt (base * n + digit d) limit) _ _ (and_true (nat_lt (digit d) base) (nat_lt (base * n + digit d) limit) e.0 low)) ∙ value_exact base limit (base * n + digit d) ds z e.1 h

and_left : (a b : Bool) → (a && b) ≡ true → a ≡ true
and_left true b h = refl
and_left false b h = absurd (cc)

and_right : (a b : Bool) → (a && b) ≡ true → b ≡ true
and_right true b h = h
and_right false b h = absurd (cc)

-- what a number that was read is
abbrev pub IsRead : ℕ → ℕ → ℕ → List ℕ → Option ℕ → Type 0
IsRead base limit n ds None = Unit {0}
IsRead base limit n ds (Some v) = Every (λ d. nat_lt (digit d) base) ds × (v ≡ all base n ds) × (n < limit → v < limit)

none_read : (base limit n : ℕ) (ds ds' : List ℕ) → IsRead base limit n ds (value_on base limit None ds')
none_read base limit n ds [] = tt
none_read base limit n ds (d ∷ ds') = tt

more_read : (base limit n d : ℕ) (ds : List ℕ) (o : Option ℕ) → nat_lt (digit d) base ≡ true → base * n + digit d < limit → IsRead base limit (base * n + digit d) ds o → IsRead base limit n (d ∷ ds) o
more_read base limit n d ds None h k r = tt
more_read base limit n d ds (Some v) h k r = ((h, r.0), r.1, λ _. r.2 k)

pub value_read : (base limit n : ℕ) (ds : List ℕ) → IsRead base limit n ds (value_on base limit (Some n) ds)
value_read base limit n [] = (tt, refl, λ h. h)
value_read base limit n (d ∷ ds) =
    choose (λ o. IsRead base limit n (d ∷ ds) (value_on base limit o ds)) (nat_lt (digit d) base && nat_lt (base * n + digit d) limit)
    (λ h. more_read base limit n d ds (value_on base limit (Some (base * n + digit d)) ds) (and_left _ _ h) (ltb-true _ _ (and_right _ _ h)) (value_read base limit (base * n + digit d) ds))
    (λ h. none_read base limit n (d ∷ ds) ds)

pub digits_some : (base limit d : ℕ) (ds : List ℕ) → digits base limit (d ∷ ds) ≡ value_on base limit (Some 0) (d ∷ ds)
digits_some base limit d ds = if_false (length (d ∷ ds) == 0) _ _ (grind (arith, nat_tests))
