-- Rising lists: their merge, and what is left of one.
use Rattle.std.proofs.Common.{◌≡◌, ℕ, ◌<◌, Bool, true, false, cond, List, [], ◌∷◌, refl, sym, ap, subst, ◌∙◌, arith, ltb, eqb, ◌≤◌, length, get_or, zero, suc, ⊎_elim}
use Rattle.std.specs.Prelude.{not, ◌||◌, ◌&&◌, Result, Ok, Err, is_ok}
use Rattle.std.specs.List.{filter, list_any}
use Rattle.std.proofs.lemmas.Bool.{cond_both, ltb-true, ltb-false, eqb-true, eqb-false, eq-eqb, ne_eqb, or_right, or_from, cases_lt}
use Rattle.std.specs.Ordering.{nat_cmp}
use Rattle.std.specs.List.Sorted.{IsBinarySearchResult}
use Rattle.std.proofs.lemmas.List.Sorted.{searched}
use Rattle.resin_label.specs.Sets.{IsBelow, IsRising}
use Rattle.resin_label.specs.Kept.{merge, merge_into}

-- ---- tests
or_assoc : (a b c : Bool) → (a || (b || c)) ≡ ((a || b) || c)
or_assoc true b c = refl
or_assoc false b c = refl

pub or_middle : (a b c : Bool) → (b || (a || c)) ≡ (a || (b || c))
or_middle true true c = refl
or_middle true false c = refl
or_middle false b c = refl

or_share : (a b c : Bool) → (a || (b || c)) ≡ ((a || b) || (a || c))
or_share true b c = refl
or_share false b c = refl

pub or-false : (a : Bool) → (a || false) ≡ a
or-false true = refl
or-false false = refl

-- ---- merge keeps rising
pub below_rest : (b : ℕ) (x : ℕ) (xs : List ℕ) → b < x → IsBelow x xs → IsBelow b xs
below_rest b x [] h i = tt
below_rest b x (y ∷ ys) h i = omega arith

below_merge_into : (b x : ℕ) (rest : List ℕ → List ℕ) (ys : List ℕ) → b < x → IsBelow b ys → IsBelow b (merge_into x rest ys)
below_merge_into b x rest [] h i = h
below_merge_into b x rest (y ∷ ys) h i =
    cond_both (ltb x y) (x ∷ rest (y ∷ ys)) (cond (ltb y x) (y ∷ merge_into x rest ys) (x ∷ rest ys)) (IsBelow b) (λ _. h)
    (λ _. cond_both (ltb y x) (y ∷ merge_into x rest ys) (x ∷ rest ys) (IsBelow b) (λ _. i) (λ _. h))

below_merge : (b : ℕ) (xs ys : List ℕ) → IsBelow b xs → IsBelow b ys → IsBelow b (merge xs ys)
below_merge b [] ys h i = i
below_merge b (x ∷ xs) ys h i = below_merge_into b x (merge xs) ys h i

rising_merge_into : (x : ℕ) (xs : List ℕ) → IsBelow x xs → ((zs : List ℕ) → IsRising zs → IsRising (merge xs zs)) → (ys : List ℕ) → IsRising ys → IsRising (merge_into x (merge xs) ys)
rising_merge_into x xs b rec [] r = (below_merge x xs [] b tt, rec [] tt)
rising_merge_into x xs b rec (y ∷ ys) r =
    cond_both (ltb x y) (x ∷ merge xs (y ∷ ys)) (cond (ltb y x) (y ∷ merge_into x (merge xs) ys) (x ∷ merge xs ys)) IsRising
    (λ lt. (below_merge x xs (y ∷ ys) b (ltb-true x y lt), rec (y ∷ ys) r))
    (λ ge. cond_both (ltb y x) (y ∷ merge_into x (merge xs) ys) (x ∷ merge xs ys) IsRising
    (λ gt. (below_merge_into y x (merge xs) ys (ltb-true y x gt) r.0, rising_merge_into x xs b rec ys r.1))
    (λ le. let same : y ≡ x = omega (arith, ltb-false x y ge, ltb-false y x le) in
    (below_merge x xs ys b (subst (λ (z : ℕ). IsBelow z ys) same r.0), rec ys r.1)))

pub rising_merge : (xs ys : List ℕ) → IsRising xs → IsRising ys → IsRising (merge xs ys)
rising_merge [] ys r s = s
rising_merge (x ∷ xs) ys r s = rising_merge_into x xs r.0 (λ zs t. rising_merge xs zs r.1 t) ys s

-- ---- what a merge contains
any_merge_into : (t : ℕ → Bool) (x : ℕ) (xs : List ℕ) → ((zs : List ℕ) → list_any t (merge xs zs) ≡ (list_any t xs || list_any t zs)) → (ys : List ℕ) → list_any t (merge_into x (merge xs) ys) ≡ ((t x || list_any t xs) || list_any t ys)
any_merge_into t x xs rec [] = ap (λ b. t x || b) (rec []) ∙ or_assoc (t x) (list_any t xs) false
any_merge_into t x xs rec (y ∷ ys) =
    cond_both (ltb x y) (x ∷ merge xs (y ∷ ys)) (cond (ltb y x) (y ∷ merge_into x (merge xs) ys) (x ∷ merge xs ys)) (λ zs. list_any t zs ≡ ((t x || list_any t xs) || (t y || list_any t ys)))
    (λ lt. ap (λ b. t x || b) (rec (y ∷ ys)) ∙ or_assoc (t x) (list_any t xs) (t y || list_any t ys))
    (λ ge. cond_both (ltb y x) (y ∷ merge_into x (merge xs) ys) (x ∷ merge xs ys) (λ zs. list_any t zs ≡ ((t x || list_any t xs) || (t y || list_any t ys)))
    (λ gt. ap (λ b. t y || b) (any_merge_into t x xs rec ys) ∙ or_middle (t x || list_any t xs) (t y) (list_any t ys))
    (λ le. let same : x ≡ y = omega (arith, ltb-false x y ge, ltb-false y x le) in
    ap (λ b. t x || b) (rec ys) ∙ or_share (t x) (list_any t xs) (list_any t ys) ∙ ap (λ z. (t x || list_any t xs) || (t z || list_any t ys)) same))

pub any_merge : (t : ℕ → Bool) (xs ys : List ℕ) → list_any t (merge xs ys) ≡ (list_any t xs || list_any t ys)
any_merge t [] ys = refl
any_merge t (x ∷ xs) ys = any_merge_into t x xs (any_merge t xs) ys

-- ---- all numbers but one
and-false : (b : Bool) → false ≡ (b && false)
and-false true = refl
and-false false = refl

pub any_filter : (n q : ℕ) (xs : List ℕ) → list_any (λ y. eqb y q) (filter (λ x. not (eqb x n)) xs) ≡ (not (eqb n q) && list_any (λ y. eqb y q) xs)
any_filter n q [] = and-false (not (eqb n q))
any_filter n q (x ∷ xs) =
    elim (eqb x n) as (λ b. eqb x n ≡ b → list_any (λ y. eqb y q) (cond (not b) (x ∷ filter (λ x. not (eqb x n)) xs) (filter (λ x. not (eqb x n)) xs)) ≡ (not (eqb n q) && (eqb x q || list_any (λ y. eqb y q) xs))) [
      | true ↦ λ e. any_filter n q xs
          ∙ elim (eqb x q) as (λ c. eqb x q ≡ c → (not (eqb n q) && list_any (λ y. eqb y q) xs) ≡ (not (eqb n q) && (c || list_any (λ y. eqb y q) xs))) [
            | true ↦ λ f. let g : eqb n q ≡ true = eq-eqb n q (sym (eqb-true x n e) ∙ eqb-true x q f) in
                ap (λ b. not b && list_any (λ y. eqb y q) xs) g ∙ sym (ap (λ b. not b && true) g)
            | false ↦ λ _. refl
          ] refl
      | false ↦ λ e. elim (eqb x q) as (λ c. eqb x q ≡ c → (c || list_any (λ y. eqb y q) (filter (λ x. not (eqb x n)) xs)) ≡ (not (eqb n q) && (c || list_any (λ y. eqb y q) xs))) [
        | true ↦ λ f. sym (ap (λ b. not b && true) (ne_eqb n q (λ h. eqb-false x n e (eqb-true x q f ∙ sym h))))
        | false ↦ λ _. any_filter n q xs
      ] refl
    ] refl

below_filter : (p : ℕ → Bool) (b : ℕ) (xs : List ℕ) → IsBelow b xs → IsRising xs → IsBelow b (filter p xs)
below_filter p b [] h r = tt
below_filter p b (x ∷ xs) h r = cond_both (p x) (x ∷ filter p xs) (filter p xs) (IsBelow b) (λ _. h) (λ _. below_filter p b xs (below_rest b x xs h r.0) r.1)

pub rising_filter : (p : ℕ → Bool) (xs : List ℕ) → IsRising xs → IsRising (filter p xs)
rising_filter p [] r = tt
rising_filter p (x ∷ xs) r = cond_both (p x) (x ∷ filter p xs) (filter p xs) IsRising (λ _. (below_filter p x xs r.0 r.1, rising_filter p xs r.1)) (λ _. rising_filter p xs r.1)

-- ---- look-ups
get_below : (n : ℕ) (ns : List ℕ) (j d : ℕ) → IsBelow n ns → IsRising ns → j < length ns → n < get_or ns j d
get_below n (m ∷ ms) zero d b r lt = b
get_below n (m ∷ ms) (suc j) d b r lt = get_below n ms j d (below_rest n m ms b r.0) r.1 (omega arith)
get_below n [] j d b r lt = absurd (omega arith)

-- a number is at most one that stands behind it
pub get_rises : (ns : List ℕ) → IsRising ns → (i j : ℕ) → i ≤ j → j < length ns → get_or ns i 0 ≤ get_or ns j 0
get_rises [] r i j le lt = absurd (omega arith)
get_rises (n ∷ ns) r zero zero le lt = omega arith
get_rises (n ∷ ns) r zero (suc j) le lt = omega (arith, get_below n ns j 0 r.0 r.1 (omega arith))
get_rises (n ∷ ns) r (suc i) zero le lt = absurd (omega arith)
get_rises (n ∷ ns) r (suc i) (suc j) le lt = get_rises ns r.1 i j (omega arith) (omega arith)

pub any_at : (p : ℕ → Bool) (ns : List ℕ) (i : ℕ) → i < length ns → p (get_or ns i 0) ≡ true → list_any p ns ≡ true
any_at p [] i lt h = absurd (omega arith)
any_at p (n ∷ ns) zero lt h = ap (λ b. b || list_any p ns) h
any_at p (n ∷ ns) (suc i) lt h = or_right (p n) (list_any p ns) (any_at p ns i (omega arith) h)

pub any_none : (p : ℕ → Bool) (ns : List ℕ) → ((k : ℕ) → k < length ns → p (get_or ns k 0) ≡ false) → list_any p ns ≡ false
any_none p [] h = refl
any_none p (n ∷ ns) h = or_from (p n) (list_any p ns) (h 0 (omega arith)) (any_none p ns (λ k lt. h (suc k) (omega arith)))

-- what a search in a rising list says of a number
pub found : (ns : List ℕ) (n : ℕ) (r : Result ℕ ℕ) → IsRising ns → IsBinarySearchResult (λ y. nat_cmp y n) ns r → is_ok r ≡ list_any (λ x. eqb x n) ns
found ns n (Ok i) up h =
    let at = searched ns n (Ok i) h (get_rises ns up) in sym (any_at (λ x. eqb x n) ns i at.0 (eq-eqb _ n at.1))
found ns n (Err i) up h =
    let at = searched ns n (Err i) h (get_rises ns up) in
    sym (any_none (λ x. eqb x n) ns (λ k lt. ne_eqb (get_or ns k 0) n (λ e. ⊎_elim
    (λ before. omega (arith, at.1 k before)) (λ behind. omega (arith, at.2 k behind lt)) (cases_lt k i))))
