-- Unions of many sets, by their members.
use Rattle.std.proofs.Common.{◌≡◌, ℕ, ◌+◌, ◌-◌, ◌<◌, ◌≤◌, Bool, true, List, [], ◌∷◌, ◌++◌, length, take, drop, get_or, refl, sym, ap, ◌∙◌, arith}
use Rattle.std.specs.Prelude.{◌||◌, nat_eq}
use Rattle.std.specs.List.{list_any}
use Rattle.std.proofs.Math.Bool.{or_assoc}
use Rattle.std.proofs.lemmas.Bool.{eq-eqb, or_right}
use Rattle.std.proofs.lemmas.List.{take-append-drop, take_all, length-drop}
use Rattle.std.proofs.lemmas.List.Folds.{list_any-append}
use Rattle.resin_eval_nested.specs.Under.label.Sets.{NumberSet, empty, contains, insert, numbers, union, IsBelow, IsRising}
use Rattle.resin_eval_nested.proofs.label_lemmas.Members.{same_by, contains-empty, contains-insert, contains-numbers, contains-union, rising}
use Rattle.resin_eval_nested.proofs.label_lemmas.Rising.{or_middle, or-false}
use Rattle.resin_eval_merges.specs.Unions.{union_of}

-- one of the sets has the number
abbrev pub some_has : List NumberSet → ℕ → Bool
some_has ss q = list_any (λ s. contains s q) ss

pub contains-union_of : (ss : List NumberSet) (q : ℕ) → contains (union_of ss) q ≡ some_has ss q
contains-union_of [] q = contains-empty q
contains-union_of (s ∷ ss) q = contains-union s (union_of ss) q ∙ ap (λ b. contains s q || b) (contains-union_of ss q)

-- ---- halves

only_set : (s : NumberSet) → s ≡ union_of (s ∷ [])
only_set s = same_by s (union_of (s ∷ [])) (λ q. sym (contains-union_of (s ∷ []) q ∙ or-false (contains s q)))

-- a list of one set
pub one_set : (ss : List NumberSet) (s : NumberSet) → 1 ≤ length ss → length ss < 2 → s ≡ get_or ss 0 s → s ≡ union_of ss
one_set [] s some one e = absurd (omega (arith, some))
one_set (t ∷ []) s some one e = e ∙ only_set t
one_set (t ∷ u ∷ ss) s some one e = absurd (omega (arith, one))

of_parts : (front behind : List NumberSet) (a b : NumberSet) → a ≡ union_of front → b ≡ union_of behind → union a b ≡ union_of (front ++ behind)
of_parts front behind a b e f = same_by (union a b) (union_of (front ++ behind)) (λ q.
    contains-union a b q
    ∙ (λ i. contains (e i) q || contains (f i) q)
    ∙ (λ i. contains-union_of front q i || contains-union_of behind q i)
    ∙ sym (list_any-append (λ s. contains s q) front behind)
    ∙ sym (contains-union_of (front ++ behind) q))

behind_all : (half : ℕ) (ss : List NumberSet) → take (length ss - half) (drop half ss) ≡ drop half ss
behind_all half ss = take_all (length ss - half) (drop half ss) (omega (arith, length-drop half ss))

pub halves : (half : ℕ) (ss front behind : List NumberSet) (a b : NumberSet) → front ≡ take half ss → behind ≡ take (length ss - half) (drop half ss) → a ≡ union_of front → b ≡ union_of behind → union a b ≡ union_of ss
halves half ss front behind a b f g e h =
    of_parts front behind a b e h ∙ ap union_of ((λ i. f i ++ (g ∙ behind_all half ss) i) ∙ take-append-drop half ss)

-- ---- numbers that are added one by one

-- a set and the numbers of a list, from the first on
abbrev pub added : NumberSet → List ℕ → NumberSet
added s [] = s
added s (n ∷ ns) = added (insert s n) ns

contains-added : (s : NumberSet) (ns : List ℕ) (q : ℕ) → contains (added s ns) q ≡ (contains s q || list_any (λ x. nat_eq x q) ns)
contains-added s [] q = sym (or-false (contains s q))
contains-added s (n ∷ ns) q =
    contains-added (insert s n) ns q
    ∙ ap (λ b. b || list_any (λ x. nat_eq x q) ns) (contains-insert s n q)
    ∙ or_assoc (nat_eq n q) (contains s q) (list_any (λ x. nat_eq x q) ns)
    ∙ or_middle (contains s q) (nat_eq n q) (list_any (λ x. nat_eq x q) ns)

-- the numbers of two sets, one after the other
pub added_both : (a b : NumberSet) → added (added empty (numbers a)) (numbers b) ≡ union a b
added_both a b = same_by (added (added empty (numbers a)) (numbers b)) (union a b) (λ q.
    contains-added (added empty (numbers a)) (numbers b) q
    ∙ (λ i. (contains-added empty (numbers a) q i) || sym (contains-numbers b q) i)
    ∙ (λ i. (contains-empty q i || sym (contains-numbers a q) i) || contains b q)
    ∙ sym (contains-union a b q))

-- two lists of nothing
pub added_nothing : (a b : NumberSet) → numbers a ≡ [] → numbers b ≡ [] → empty ≡ union a b
added_nothing a b e f = (λ i. added (added empty (sym e i)) (sym f i)) ∙ added_both a b

-- ---- sets that are made one from the left

abbrev pub union_on : NumberSet → List NumberSet → NumberSet
union_on s [] = s
union_on s (t ∷ ts) = union_on (union s t) ts

-- the sets up to the first of some and those behind it
pub has_on : (s t : NumberSet) (ts : List NumberSet) (q : ℕ) → (contains (union s t) q || some_has ts q) ≡ (contains s q || some_has (t ∷ ts) q)
has_on s t ts q = ap (λ b. b || some_has ts q) (contains-union s t q) ∙ or_assoc (contains s q) (contains t q) (some_has ts q)

contains-union_on : (s : NumberSet) (ts : List NumberSet) (q : ℕ) → contains (union_on s ts) q ≡ (contains s q || some_has ts q)
contains-union_on s [] q = sym (or-false (contains s q))
contains-union_on s (t ∷ ts) q = contains-union_on (union s t) ts q ∙ has_on s t ts q

pub union_on_is : (s : NumberSet) (ts : List NumberSet) → union_on s ts ≡ union_of (s ∷ ts)
union_on_is s ts = same_by (union_on s ts) (union_of (s ∷ ts)) (λ q. contains-union_on s ts q ∙ sym (contains-union_of (s ∷ ts) q))

-- ---- how many members there are

rising_room : (x : ℕ) (xs : List ℕ) (most : ℕ) → x ≤ most → IsBelow x xs → IsRising xs → ((q : ℕ) → list_any (λ y. nat_eq y q) xs ≡ true → q ≤ most) → x + length xs ≤ most
rising_room x [] most le b r each = omega (arith, le)
rising_room x (y ∷ ys) most le b r each =
    let first : y ≤ most = each y (ap (λ b. b || list_any (λ z. nat_eq z y) ys) (eq-eqb y y refl)) in
    let rest = rising_room y ys most first r.0 r.1 (λ q e. each q (or_right (nat_eq y q) (list_any (λ z. nat_eq z q) ys) e)) in
    omega (arith, b, rest)

rising_few : (xs : List ℕ) (most : ℕ) → IsRising xs → ((q : ℕ) → list_any (λ y. nat_eq y q) xs ≡ true → q ≤ most) → length xs ≤ most + 1
rising_few [] most r each = omega arith
rising_few (x ∷ xs) most r each =
    let first : x ≤ most = each x (ap (λ b. b || list_any (λ z. nat_eq z x) xs) (eq-eqb x x refl)) in
    let rest = rising_room x xs most first r.0 r.1 (λ q e. each q (or_right (nat_eq x q) (list_any (λ z. nat_eq z q) xs) e)) in
    omega (arith, rest)

-- a set of numbers up to a largest one has no more members
pub few_members : (s : NumberSet) (most : ℕ) → ((q : ℕ) → contains s q ≡ true → q ≤ most) → length (numbers s) ≤ most + 1
few_members s most each = rising_few (numbers s) most (rising s) (λ q e. each q (contains-numbers s q ∙ e))
