-- A comparison of entries, pair by pair.
use Rattle.std.proofs.Common.{◌≡◌, ◌≢◌, ℕ, ◌+◌, ◌<◌, ◌≤◌, zero, suc, true, false, if◌then◌else◌, eqb, List, [], ◌∷◌, refl, sym, ap, ◌∙◌, arith, length, drop, slice_get, pos, Some, Ok, Err, eq-eqb}
use Rattle.std.specs.Prelude.{is_some}
use Rattle.std.proofs.lemmas.Bool.{true≢false}
use Rattle.std.proofs.lemmas.Bool.Decides.{nat_tests}
use Rattle.resin_value.specs.declared.compare.CompareFault.TheVariants.{Spent as FuelSpent}
use Rattle.resin_value.specs.declared.key.Key.{Key}
use Rattle.resin_value.specs.declared.key.Key.TheVariants.{Int}
use Rattle.resin_value.specs.Keys.{key_eq}
use Rattle.resin_value.specs.Trees.{Tree, Row, null, array, entry}
use Rattle.resin_value.specs.Arrays.{EntryList, Array, row_of, entries_of, entries_of-row_of}
use Rattle.resin_value.specs.Changes.{lookup}
use Rattle.resin_value.specs.Compare.{and_then, with_value, equal_trees, equal_rows, identical_trees, identical_rows, spent}

-- ---- lists
pub drop_at : {X : Type 0} (es : List X) (i : ℕ) (e : X) → slice_get es i ≡ Some e → drop i es ≡ e ∷ drop (i + 1) es
drop_at [] i e h = absurd (true≢false (sym (ap is_some h)))
drop_at (x ∷ es) zero e h = let same : x ≡ e = cc in ap (λ y. y ∷ es) same
drop_at (x ∷ es) (suc i) e h = drop_at es i e h ∙ ap (λ n. e ∷ drop n (x ∷ es)) (let n : suc (i + 1) ≡ suc i + 1 = omega arith in n)

drop_more : {X : Type 0} (es : List X) (i : ℕ) (d : X) → i < length es → (e : X) × (drop i es ≡ e ∷ drop (i + 1) es)
drop_more [] i d h = absurd (omega arith)
drop_more (x ∷ es) zero d h = (x, refl)
drop_more (x ∷ es) (suc i) d h =
    let more = drop_more es i d (omega arith) in
    (more.0, more.1 ∙ ap (λ n. more.0 ∷ drop n (x ∷ es)) (let n : suc (i + 1) ≡ suc i + 1 = omega arith in n))

pub drop_end : {X : Type 0} (es : List X) (i : ℕ) → length es ≤ i → drop i es ≡ []
drop_end [] zero h = refl
drop_end [] (suc i) h = refl
drop_end (x ∷ es) zero h = absurd (omega arith)
drop_end (x ∷ es) (suc i) h = drop_end es i (omega arith)

some_pair : Key × Tree
some_pair = (Int (pos 0), null)

-- ---- a choice by two numbers
pub if_same : {A : Type 0} (a b : ℕ) (x y : A) → a ≡ b → (if eqb a b then x else y) ≡ x
if_same a b x y e = ap (λ c. if c then x else y) (eq-eqb a b e)

pub if_other : {A : Type 0} (a b : ℕ) (x y : A) → a ≢ b → (if eqb a b then x else y) ≡ y
if_other a b x y n = ap (λ c. if c then x else y) (let f : eqb a b ≡ false = grind (arith, nat_tests) in f)

-- ---- `===`
pub identical_unlike : (x y : Array) (n : ℕ) → length x.entries ≢ length y.entries → identical_trees (array (row_of x.entries) x.largest x.height) (array (row_of y.entries) y.largest y.height) n ≡ (Ok false, n)
identical_unlike x y n h =
    (λ i. if eqb (length (entries_of-row_of x.entries i)) (length (entries_of-row_of y.entries i)) then identical_rows (row_of x.entries) (row_of y.entries) n else (Ok false, n))
    ∙ if_other (length x.entries) (length y.entries) _ _ h

pub identical_alike : (x y : Array) (n : ℕ) → length x.entries ≡ length y.entries → identical_trees (array (row_of x.entries) x.largest x.height) (array (row_of y.entries) y.largest y.height) n ≡ identical_rows (row_of x.entries) (row_of y.entries) n
identical_alike x y n h =
    (λ i. if eqb (length (entries_of-row_of x.entries i)) (length (entries_of-row_of y.entries i)) then identical_rows (row_of x.entries) (row_of y.entries) n else (Ok false, n))
    ∙ if_same (length x.entries) (length y.entries) _ _ h

identical_zero : (k : Key) (t : Tree) (r s : Row) (n : ℕ) → n < 1 → identical_rows (entry k t r) s n ≡ (Err spent, 0)
identical_zero k t r s zero h = refl
identical_zero k t r s (suc n) h = absurd (omega arith)

identical_pair : (k j : Key) (t u : Tree) (r s : Row) (m n : ℕ) → m + 1 ≡ n → identical_rows (entry k t r) (entry j u s) n ≡ and_then (if key_eq k j then identical_trees t u m else (Ok false, m)) (λ p. identical_rows r s p)
identical_pair k j t u r s m zero h = absurd (omega arith)
identical_pair k j t u r s m (suc n) h = ap (λ q. and_then (if key_eq k j then identical_trees t u q else (Ok false, q)) (λ p. identical_rows r s p)) (let e : n ≡ m = omega arith in e)

module _ (X Y : EntryList) (start i n : ℕ) (so_far : identical_rows (row_of X) (row_of Y) start ≡ identical_rows (row_of (drop i X)) (row_of (drop i Y)) n) where
  pub identical_end : length X ≤ i → identical_rows (row_of X) (row_of Y) start ≡ (Ok true, n)
  identical_end h = so_far ∙ ap (λ es. identical_rows (row_of es) (row_of (drop i Y)) n) (drop_end X i h)

  pub identical_spent : i < length X → n < 1 → identical_rows (row_of X) (row_of Y) start ≡ (Err spent, 0)
  identical_spent h low =
      let more = drop_more X i some_pair h in
      so_far ∙ ap (λ es. identical_rows (row_of es) (row_of (drop i Y)) n) more.1 ∙ identical_zero more.0.0 more.0.1 (row_of (drop (i + 1) X)) (row_of (drop i Y)) n low

  pub identical_turn : (k j : Key) (t u : Tree) (m : ℕ) → slice_get X i ≡ Some (k, t) → slice_get Y i ≡ Some (j, u) → m + 1 ≡ n → identical_rows (row_of X) (row_of Y) start ≡ and_then (if key_eq k j then identical_trees t u m else (Ok false, m)) (λ p. identical_rows (row_of (drop (i + 1) X)) (row_of (drop (i + 1) Y)) p)
  identical_turn k j t u m here there h =
      so_far ∙ (λ q. identical_rows (row_of (drop_at X i (k, t) here q)) (row_of (drop_at Y i (j, u) there q)) n)
      ∙ identical_pair k j t u (row_of (drop (i + 1) X)) (row_of (drop (i + 1) Y)) m n h

-- ---- `==`
pub equal_unlike : (x y : Array) (n : ℕ) → length x.entries ≢ length y.entries → equal_trees (array (row_of x.entries) x.largest x.height) (array (row_of y.entries) y.largest y.height) n ≡ (Ok false, n)
equal_unlike x y n h =
    (λ i. if eqb (length (entries_of-row_of x.entries i)) (length (entries_of-row_of y.entries i)) then equal_rows (row_of x.entries) (entries_of (row_of y.entries)) n else (Ok false, n))
    ∙ if_other (length x.entries) (length y.entries) _ _ h

pub equal_alike : (x y : Array) (n : ℕ) → length x.entries ≡ length y.entries → equal_trees (array (row_of x.entries) x.largest x.height) (array (row_of y.entries) y.largest y.height) n ≡ equal_rows (row_of x.entries) y.entries n
equal_alike x y n h =
    (λ i. if eqb (length (entries_of-row_of x.entries i)) (length (entries_of-row_of y.entries i)) then equal_rows (row_of x.entries) (entries_of-row_of y.entries i) n else (Ok false, n))
    ∙ if_same (length x.entries) (length y.entries) _ _ h

equal_zero : (k : Key) (t : Tree) (r : Row) (es : EntryList) (n : ℕ) → n < 1 → equal_rows (entry k t r) es n ≡ (Err FuelSpent, 0)
equal_zero k t r es zero h = refl
equal_zero k t r es (suc n) h = absurd (omega arith)

equal_pair : (k : Key) (t : Tree) (r : Row) (es : EntryList) (m n : ℕ) → m + 1 ≡ n → equal_rows (entry k t r) es n ≡ and_then (with_value (lookup k es) m (λ u. equal_trees t u m)) (λ p. equal_rows r es p)
equal_pair k t r es m zero h = absurd (omega arith)
equal_pair k t r es m (suc n) h = ap (λ q. and_then (with_value (lookup k es) q (λ u. equal_trees t u q)) (λ p. equal_rows r es p)) (let e : n ≡ m = omega arith in e)

module _ (X Y : EntryList) (start i n : ℕ) (so_far : equal_rows (row_of X) Y start ≡ equal_rows (row_of (drop i X)) Y n) where
  pub equal_end : length X ≤ i → equal_rows (row_of X) Y start ≡ (Ok true, n)
  equal_end h = so_far ∙ ap (λ es. equal_rows (row_of es) Y n) (drop_end X i h)

  pub equal_spent : i < length X → n < 1 → equal_rows (row_of X) Y start ≡ (Err FuelSpent, 0)
  equal_spent h low =
      let more = drop_more X i some_pair h in
      so_far ∙ ap (λ es. equal_rows (row_of es) Y n) more.1 ∙ equal_zero more.0.0 more.0.1 (row_of (drop (i + 1) X)) Y n low

  pub equal_turn : (k : Key) (t : Tree) (m : ℕ) → slice_get X i ≡ Some (k, t) → m + 1 ≡ n → equal_rows (row_of X) Y start ≡ and_then (with_value (lookup k Y) m (λ u. equal_trees t u m)) (λ p. equal_rows (row_of (drop (i + 1) X)) Y p)
  equal_turn k t m here h =
      so_far ∙ ap (λ es. equal_rows (row_of es) Y n) (drop_at X i (k, t) here) ∙ equal_pair k t (row_of (drop (i + 1) X)) Y m n h
