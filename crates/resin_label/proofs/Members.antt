-- Sets by their members.
use Rattle.std.proofs.Common.{◌≡◌, ℕ, Bool, true, false, cond, List, [], ◌∷◌, refl, sym, ap, ◌∙◌, ltb, Option, Some, None, ⊎_elim, length, arith}
use Rattle.std.specs.Prelude.{IfOk, MatchResult, Result, Ok, Err, map, T, not, ◌||◌, ◌&&◌, nat_eq, is_some}
use Rattle.std.specs.List.{filter, list_any, list_all}
use Rattle.std.specs.Ordering.{nat_cmp, eq_by_cmp, is_lt}
use Rattle.std.specs.declared.cmp.Ordering.TheVariants.{Less, Equal, Greater}
use Rattle.std.specs.Cmp.{nat_cmp_total, unsigned_tied, nat_eq_equiv}
use Rattle.std.specs.FinMap as fin
use Rattle.std.specs.FinMap.Entries.{is_sorted, below_all}
use Rattle.std.proofs.lemmas.Bool.{lt-ltb, ltb-true, eqb-true, and_parts, or_cases, true≢false}
use Rattle.std.proofs.lemmas.Slice.Eq.{slice_eq-Decides}
use Rattle.std.proofs.lemmas.Bool.Decides.{Decides-eqb}
use Rattle.resin_label.specs.Sets.{NumberSet, contains, empty, insert, remove, numbers, insert_all, union, set_of, same, IsBelow, IsRising}
use Rattle.resin_label.specs.Kept.{merge, keyed, of_rising}
use Rattle.resin_label.proofs.Rising.{or_middle, or-false, any_merge, any_filter, below_rest}

-- ---- sets by their members
marks : (o : Option (Unit {0})) → o ≡ cond (is_some o) (Some tt) None
marks None = refl
marks (Some u) = refl

some_or : (b : Bool) (o : Option (Unit {0})) → is_some (cond b (Some tt) o) ≡ (b || is_some o)
some_or true o = refl
some_or false o = refl

none_and : (b : Bool) (o : Option (Unit {0})) → is_some (cond b None o) ≡ (not b && is_some o)
none_and true o = refl
none_and false o = refl

pub same_by : (s t : NumberSet) → ((q : ℕ) → contains s q ≡ contains t q) → s ≡ t
same_by s t h = fin.same_map nat_cmp_total fin.nat_cmp-IsAntisymmetric s t (λ q. marks _ ∙ ap (λ b. cond b (Some tt) None) (h q) ∙ sym (marks _))

-- whether q is n, as std's order of numbers says it
tie : (q n : ℕ) → eq_by_cmp nat_cmp q n ≡ nat_eq n q
tie q n = unsigned_tied q n ∙ nat_eq_equiv.symm q n

any_tie : (q : ℕ) (xs : List ℕ) → list_any (eq_by_cmp nat_cmp q) xs ≡ list_any (λ x. nat_eq x q) xs
any_tie q [] = refl
any_tie q (x ∷ xs) = (λ i. tie q x i || any_tie q xs i)

pub contains-numbers : (s : NumberSet) (q : ℕ) → contains s q ≡ list_any (λ x. nat_eq x q) (numbers s)
contains-numbers s q = fin.contains_key-keys s q ∙ any_tie q (numbers s)

pub contains-empty : (q : ℕ) → contains empty q ≡ false
contains-empty q = ap is_some (fin.get-empty {X = Unit {0}} nat_cmp q)

pub contains-insert : (s : NumberSet) (n q : ℕ) → contains (insert s n) q ≡ (nat_eq n q || contains s q)
contains-insert s n q = ap is_some (fin.get-insert nat_cmp_total s n tt q) ∙ some_or _ _ ∙ ap (λ b. b || contains s q) (tie q n)

pub contains-remove : (s : NumberSet) (n q : ℕ) → contains (remove s n) q ≡ (not (nat_eq n q) && contains s q)
contains-remove s n q = ap is_some (fin.get-remove nat_cmp_total s n q) ∙ none_and _ _ ∙ ap (λ b. not b && contains s q) (tie q n)

pub contains-insert_all : (s : NumberSet) (ns : List ℕ) (q : ℕ) → contains (insert_all s ns) q ≡ (contains s q || list_any (λ x. nat_eq x q) ns)
contains-insert_all s [] q = sym (or-false _)
contains-insert_all s (n ∷ ns) q = contains-insert (insert_all s ns) n q ∙ ap (λ b. nat_eq n q || b) (contains-insert_all s ns q) ∙ or_middle (contains s q) (nat_eq n q) _

pub contains-union : (s t : NumberSet) (q : ℕ) → contains (union s t) q ≡ (contains s q || contains t q)
contains-union s t q = contains-insert_all s (numbers t) q ∙ ap (λ b. contains s q || b) (sym (contains-numbers t q))

pub contains-set_of : (ns : List ℕ) (q : ℕ) → contains (set_of ns) q ≡ list_any (λ x. nat_eq x q) ns
contains-set_of ns q = contains-insert_all empty ns q ∙ ap (λ b. b || list_any (λ x. nat_eq x q) ns) (contains-empty q)

-- two sets with one list of members are one set
pub same_numbers : (s t : NumberSet) → numbers s ≡ numbers t → s ≡ t
same_numbers s t e = same_by s t (λ q. contains-numbers s q ∙ ap (list_any (λ x. nat_eq x q)) e ∙ sym (contains-numbers t q))

-- ---- the rising list of a set
pub keys_keyed : (xs : List ℕ) → map (λ e. e.0) (keyed xs) ≡ xs
keys_keyed [] = refl
keys_keyed (x ∷ xs) = ap (λ zs. x ∷ zs) (keys_keyed xs)

below_keyed : (b : ℕ) (xs : List ℕ) → IsBelow b xs → IsRising xs → T (below_all nat_cmp b (keyed xs))
below_keyed b [] h r = tt
below_keyed b (x ∷ xs) h r =
    let e : ltb b x ≡ true = lt-ltb b x h in
    rw e (below_keyed b xs (below_rest b x xs h r.0) r.1)

both : (a b : Bool) → T a → T b → T (a && b)
both true b p q = q
both false b p q = p

pub sorted_keyed : (xs : List ℕ) → IsRising xs → T (is_sorted nat_cmp (keyed xs))
sorted_keyed [] r = tt
sorted_keyed (x ∷ xs) r = both (below_all nat_cmp x (keyed xs)) (is_sorted nat_cmp (keyed xs)) (below_keyed x xs r.0 r.1) (sorted_keyed xs r.1)

-- the members of the set of a rising list
pub numbers-of_rising : (ns : List ℕ) → IsRising ns → numbers (of_rising ns) ≡ ns
numbers-of_rising ns r = ap (map (λ e. e.0)) (fin.entries-from_sorted nat_cmp (keyed ns) (sorted_keyed ns r)) ∙ keys_keyed ns

first : (a b : Bool) → T (a && b) → T a
first true b p = tt
first false b p = p

second : (a b : Bool) → T (a && b) → T b
second true b p = p
second false b p = absurd p

less : (b c : Bool) (m n : ℕ) → T (is_lt (cond b Less (cond c Equal Greater))) → b ≡ true
less true c m n h = refl
less false true m n h = absurd h
less false false m n h = absurd h

below_from : (n : ℕ) (es : List (ℕ × Unit {0})) → T (below_all nat_cmp n es) → IsBelow n (map (λ e. e.0) es)
below_from n [] h = tt
below_from n (e ∷ es) h = ltb-true n e.0 (less _ _ n e.0 (first _ _ h))

rising_from : (es : List (ℕ × Unit {0})) → T (is_sorted nat_cmp es) → IsRising (map (λ e. e.0) es)
rising_from [] h = tt
rising_from (e ∷ es) h = (below_from e.0 es (first _ _ h), rising_from es (second _ _ h))

-- the members of a set rise
pub rising : (s : NumberSet) → IsRising (numbers s)
rising s = rising_from (fin.entries s) (fin.entries_sorted s)

pub of_rising-nil : of_rising [] ≡ empty
of_rising-nil = same_by (of_rising []) empty (λ q. contains-numbers (of_rising []) q ∙ ap (list_any (λ x. nat_eq x q)) (numbers-of_rising [] tt) ∙ sym (contains-empty q))

-- ---- what the calls make
pub insert_is : (s t : NumberSet) (n : ℕ) → numbers t ≡ merge (numbers s) (n ∷ []) → t ≡ insert s n
insert_is s t n e = same_by t (insert s n) (λ q.
    contains-numbers t q ∙ ap (list_any (λ x. nat_eq x q)) e ∙ any_merge (λ x. nat_eq x q) (numbers s) (n ∷ [])
    ∙ or_middle (nat_eq n q) (list_any (λ x. nat_eq x q) (numbers s)) false ∙ ap (λ b. nat_eq n q || b) (or-false _ ∙ sym (contains-numbers s q))
    ∙ sym (contains-insert s n q))

pub union_is : (s t r : NumberSet) → numbers r ≡ merge (numbers s) (numbers t) → r ≡ union s t
union_is s t r e = same_by r (union s t) (λ q.
    contains-numbers r q ∙ ap (list_any (λ x. nat_eq x q)) e ∙ any_merge (λ x. nat_eq x q) (numbers s) (numbers t)
    ∙ sym (contains-union s t q ∙ ap (λ b. b || contains t q) (contains-numbers s q) ∙ ap (λ b. list_any (λ x. nat_eq x q) (numbers s) || b) (contains-numbers t q)))

pub remove_is : (s t : NumberSet) (n : ℕ) → numbers t ≡ filter (λ x. not (nat_eq x n)) (numbers s) → t ≡ remove s n
remove_is s t n e = same_by t (remove s n) (λ q.
    contains-numbers t q ∙ ap (list_any (λ x. nat_eq x q)) e ∙ any_filter n q (numbers s)
    ∙ sym (contains-remove s n q ∙ ap (λ b. not (nat_eq n q) && b) (contains-numbers s q)))

-- a number that is there already, and one that is not there
alike : (a b : Bool) → (a ≡ true → b ≡ true) → (a || b) ≡ b
alike true b h = sym (h refl)
alike false b h = refl

pub insert_there : (s : NumberSet) (n : ℕ) → contains s n ≡ true → s ≡ insert s n
insert_there s n h = same_by s (insert s n) (λ q. sym (contains-insert s n q ∙ alike (nat_eq n q) (contains s q) (λ e. ap (contains s) (sym (eqb-true n q e)) ∙ h)))

unlike : (a b : Bool) → (a ≡ true → b ≡ false) → (not a && b) ≡ b
unlike true b h = sym (h refl)
unlike false b h = refl

pub remove_absent : (s : NumberSet) (n : ℕ) → contains s n ≡ false → s ≡ remove s n
remove_absent s n h = same_by s (remove s n) (λ q. sym (contains-remove s n q ∙ unlike (nat_eq n q) (contains s q) (λ e. ap (contains s) (sym (eqb-true n q e)) ∙ h)))

-- a set that holds another one
pub holds-any : (xs ys : List ℕ) (q : ℕ) → list_all (λ y. list_any (λ x. nat_eq x y) xs) ys ≡ true → list_any (λ y. nat_eq y q) ys ≡ true → list_any (λ x. nat_eq x q) xs ≡ true
holds-any xs [] q all one = absurd (true≢false (sym one))
holds-any xs (y ∷ ys) q all one =
    let parts = and_parts (list_any (λ x. nat_eq x y) xs) (list_all (λ y. list_any (λ x. nat_eq x y) xs) ys) all in
    ⊎_elim
    (λ is. ap (λ z. list_any (λ x. nat_eq x z) xs) (sym (eqb-true y q is)) ∙ parts.0)
    (λ rest. holds-any xs ys q parts.1 rest)
    (or_cases (nat_eq y q) (list_any (λ y. nat_eq y q) ys) one)

or_swap : (a b : Bool) → (a || b) ≡ (b || a)
or_swap true true = refl
or_swap true false = refl
or_swap false true = refl
or_swap false false = refl

holds_from : (s t : NumberSet) → list_all (λ y. list_any (λ x. nat_eq x y) (numbers s)) (numbers t) ≡ true → (q : ℕ) → contains t q ≡ true → contains s q ≡ true
holds_from s t all q h = contains-numbers s q ∙ holds-any (numbers s) (numbers t) q all (sym (contains-numbers t q) ∙ h)

pub union_left : (s t : NumberSet) → list_all (λ y. list_any (λ x. nat_eq x y) (numbers s)) (numbers t) ≡ true → s ≡ union s t
union_left s t all = same_by s (union s t) (λ q. sym (contains-union s t q ∙ or_swap (contains s q) (contains t q) ∙ alike (contains t q) (contains s q) (holds_from s t all q)))

pub union_right : (s t : NumberSet) → list_all (λ y. list_any (λ x. nat_eq x y) (numbers t)) (numbers s) ≡ true → t ≡ union s t
union_right s t all = same_by t (union s t) (λ q. sym (contains-union s t q ∙ alike (contains s q) (contains t q) (holds_from t s all q)))

-- the clause of a last call, carried on
pub if_ok_map : {X E : Type 0} (r : Result X E) {P Q : X → Type 0} → ((x : X) → P x → Q x) → IfOk r P → IfOk r Q
if_ok_map (Ok x) f h = f x h
if_ok_map (Err x) f h = tt

-- the same of a copy
pub if_copied : {X E : Type 0} (r : Result X E) {a b : X} (Q : E → Type 0) → a ≡ b → MatchResult r (λ s. s ≡ a) Q → IfOk r (λ s. s ≡ b)
if_copied (Ok x) Q e h = h ∙ e
if_copied (Err x) Q e h = tt

-- a list of no length
pub no_items : (ns : List ℕ) → length ns ≡ 0 → ns ≡ []
no_items [] e = refl
no_items (n ∷ ns) e = absurd (omega arith)

-- `same` tells whether two sets are one
pub same-decides : (s t : NumberSet) → (same s t ≡ true → s ≡ t) × (s ≡ t → same s t ≡ true)
same-decides s t =
    let decides = slice_eq-Decides Decides-eqb (numbers s) (numbers t) (same s t) refl in
    (λ e. same_numbers s t (decides.0 e), λ e. decides.1 (ap numbers e))
