-- Proofs of the laws of arrays and of comparisons.
use Rattle.std.proofs.Common.{◌≡◌, ◌≢◌, ℕ, zero, suc, true, false, if◌then◌else◌, [], ◌∷◌, map, length, refl, sym, ap, ◌∙◌, Option, Some, None, Ok, eqb}
use Rattle.std.specs.Prelude.{not, ◌||◌}
use Rattle.std.specs.Option.{option_map}
use Rattle.std.specs.Ordering.{bool_cmp}
use Rattle.std.proofs.lemmas.Bool.{false_from_ne_true}
use Rattle.resin_label.specs.Sets.{empty as no_labels}
use Rattle.resin_lstr.specs.Texts.{Text as LabelledText, bytes_of, carrying}
use Rattle.resin_scalar.specs.Scalars.{Plain, text as plain_text, truth_of, same_bytes}
use Rattle.resin_value.specs.declared.key.Key.{Key}
use Rattle.resin_value.specs.declared.key.Key.TheVariants.{Int}
use Rattle.resin_value.specs.Trees.{Tree, Row, null, boolean, integer, text, array, object, no_entry, entry}
use Rattle.resin_value.specs.Arrays.{EntryList, Array, entries_of}
use Rattle.resin_value.specs.Keys.{key_eq}
use Rattle.resin_value.specs.Changes.{lookup, put_at, remove_at, put}
use Rattle.resin_value.specs.Compare.{Charged, and_then, with_value, scalar_of, is_true, is_switch, order_compound, order_by, order_trees, equal_in_order, equal_trees, equal_rows, identical_trees, identical_rows}
use Rattle.resin_value.specs.Laws.{bare, bare_row, FindsWhatWasPut, PutsAtOneKey, ForgetsWhatWasRemoved, RemovesOneKey, AppendsLast, IgnoresLabels}
use Rattle.resin_value.proofs.Pairs.{put_last}
use Rattle.resin_value.proofs.Keeps.{same_key, key_itself, fresh_key}

-- ---- arrays
different : (j k : Key) → j ≢ k → key_eq j k ≡ false
different j k n = false_from_ne_true (key_eq j k) (λ t. n (same_key j k t))

pub finds_what_was_put : FindsWhatWasPut
finds_what_was_put k t [] = ap (λ b. if b then Some t else None) (key_itself k)
finds_what_was_put k t (e ∷ es) =
    elim (key_eq k e.0) as (λ b. key_eq k e.0 ≡ b → lookup k (if b then (e.0, t) ∷ es else e ∷ put_at k t es) ≡ Some t) [
      | true ↦ λ f. ap (λ b. if b then Some t else lookup k es) f
      | false ↦ λ f. ap (λ b. if b then Some e.1 else lookup k (put_at k t es)) f ∙ finds_what_was_put k t es
    ] refl

pub puts_at_one_key : PutsAtOneKey
puts_at_one_key j k t [] n = ap (λ b. if b then Some t else None) (different j k n)
puts_at_one_key j k t (e ∷ es) n =
    elim (key_eq k e.0) as (λ b. key_eq k e.0 ≡ b → lookup j (if b then (e.0, t) ∷ es else e ∷ put_at k t es) ≡ lookup j (e ∷ es)) [
      | true ↦ λ f.
          let other : key_eq j e.0 ≡ false = ap (key_eq j) (sym (same_key k e.0 f)) ∙ different j k n in
          ap (λ b. if b then Some t else lookup j es) other ∙ sym (ap (λ b. if b then Some e.1 else lookup j es) other)
      | false ↦ λ f. ap (λ o. if key_eq j e.0 then Some e.1 else o) (puts_at_one_key j k t es n)
    ] refl

pub forgets_what_was_removed : ForgetsWhatWasRemoved
forgets_what_was_removed k [] u = refl
forgets_what_was_removed k (e ∷ es) u =
    elim (key_eq k e.0) as (λ b. key_eq k e.0 ≡ b → lookup k (if b then es else e ∷ remove_at k es) ≡ None) [
      | true ↦ λ f. ap (λ j. lookup j es) (same_key k e.0 f) ∙ u.0
      | false ↦ λ f. ap (λ b. if b then Some e.1 else lookup k (remove_at k es)) f ∙ forgets_what_was_removed k es u.1
    ] refl

pub removes_one_key : RemovesOneKey
removes_one_key j k [] n = refl
removes_one_key j k (e ∷ es) n =
    elim (key_eq k e.0) as (λ b. key_eq k e.0 ≡ b → lookup j (if b then es else e ∷ remove_at k es) ≡ lookup j (e ∷ es)) [
      | true ↦ λ f.
          let other : key_eq j e.0 ≡ false = ap (key_eq j) (sym (same_key k e.0 f)) ∙ different j k n in
          sym (ap (λ b. if b then Some e.1 else lookup j es) other)
      | false ↦ λ f. ap (λ o. if key_eq j e.0 then Some e.1 else o) (removes_one_key j k es n)
    ] refl

entries_or : EntryList → Option Array → EntryList
entries_or d None = d
entries_or d (Some a) = a.entries

pub appends_last : AppendsLast
unfolding entries_or
appends_last t a n kept next b is =
    sym (ap (entries_or []) (ap (option_map (λ m. put (Int m) t a)) (sym next) ∙ is)) ∙ put_last (Int n) t a.entries (fresh_key a.largest n a.entries next kept.used)

-- ---- comparisons
bytes_bare : (t : LabelledText) → bytes_of (carrying no_labels (bytes_of t)) ≡ bytes_of t
bytes_bare [] = refl
bytes_bare (p ∷ t) = ap (λ bs. p.0 ∷ bs) (bytes_bare t)

length_bare : (r : Row) → length (entries_of (bare_row r)) ≡ length (entries_of r)
length_bare no_entry = refl
length_bare (entry k t r) = ap suc (length_bare r)

scalar_bare : (t : Tree) → scalar_of (bare t) ≡ scalar_of t
scalar_bare null = refl
scalar_bare (boolean b) = refl
scalar_bare (integer n s) = refl
scalar_bare (text t) = ap (λ bs. Some (plain_text bs)) (bytes_bare t)
scalar_bare (array r l h) = refl
scalar_bare (object n) = refl

true_bare : (t : Tree) → is_true (bare t) ≡ is_true t
true_bare null = refl
true_bare (boolean b) = refl
true_bare (integer n s) = refl
true_bare (text t) = ap (λ bs. truth_of (plain_text bs)) (bytes_bare t)
true_bare (array r l h) = ap (λ n. not (eqb n 0)) (length_bare r)
true_bare (object n) = refl

switch_bare : (t : Tree) → is_switch (bare t) ≡ is_switch t
switch_bare null = refl
switch_bare (boolean b) = refl
switch_bare (integer n s) = refl
switch_bare (text t) = refl
switch_bare (array r l h) = refl
switch_bare (object n) = refl

compound_bare : (t u : Tree) → order_compound (bare t) (bare u) ≡ order_compound t u
compound_bare (object m) (object n) = refl
compound_bare (object m) u = refl
compound_bare t (object n) = refl
compound_bare t u = refl

by_bare : (p q : Option Plain) (t u : Tree) → order_by p q (bare t) (bare u) ≡ order_by p q t u
by_bare (Some p) (Some q) t u = refl
by_bare p q t u = λ i. if switch_bare t i || switch_bare u i then Ok (bool_cmp (true_bare t i) (true_bare u i)) else compound_bare t u i

order_bare : (t u : Tree) → order_trees (bare t) (bare u) ≡ order_trees t u
order_bare t u = (λ i. order_by (scalar_bare t i) (scalar_bare u i) (bare t) (bare u)) ∙ by_bare (scalar_of t) (scalar_of u) t u

entries_bare : (r : Row) → entries_of (bare_row r) ≡ map (λ e. (e.0, bare e.1)) (entries_of r)
entries_bare no_entry = refl
entries_bare (entry k t r) = ap (λ es. (k, bare t) ∷ es) (entries_bare r)

lookup_bare : (k : Key) (es : EntryList) → lookup k (map (λ e. (e.0, bare e.1)) es) ≡ option_map bare (lookup k es)
lookup_bare k [] = refl
lookup_bare k (e ∷ es) =
    elim (key_eq k e.0) as (λ b. (if b then Some (bare e.1) else lookup k (map (λ e. (e.0, bare e.1)) es)) ≡ option_map bare (if b then Some e.1 else lookup k es)) [ true ↦ refl | false ↦ lookup_bare k es ]

value_bare : {E : Type 0} (o : Option Tree) (n : ℕ) (f g : Tree → Charged E) → ((u : Tree) → f (bare u) ≡ g u) → with_value (option_map bare o) n f ≡ with_value o n g
value_bare None n f g h = refl
value_bare (Some u) n f g h = h u

mutual
  equal_bare : (t u : Tree) (n : ℕ) → equal_trees (bare t) (bare u) n ≡ equal_trees t u n
  equal_bare (array r l h) (array s m g) n =
      (λ i. if eqb (length_bare r i) (length_bare s i) then equal_rows (bare_row r) (entries_bare s i) n else (Ok false, n))
      ∙ ap (λ c. if eqb (length (entries_of r)) (length (entries_of s)) then c else (Ok false, n)) (equal_rows_bare r (entries_of s) n)
  equal_bare t u n = ap (λ o. (equal_in_order o, n)) (order_bare t u)

  equal_rows_bare : (r : Row) (es : EntryList) (n : ℕ) → equal_rows (bare_row r) (map (λ e. (e.0, bare e.1)) es) n ≡ equal_rows r es n
  equal_rows_bare no_entry es n = refl
  equal_rows_bare (entry k t r) es zero = refl
  equal_rows_bare (entry k t r) es (suc n) =
      (λ i. and_then (with_value (lookup_bare k es i) n (λ u. equal_trees (bare t) u n)) (λ m. equal_rows_bare r es m i))
      ∙ ap (λ c. and_then c (λ m. equal_rows r es m)) (value_bare (lookup k es) n (λ u. equal_trees (bare t) u n) (λ u. equal_trees t u n) (λ u. equal_bare t u n))

mutual
  identical_bare : (t u : Tree) (n : ℕ) → identical_trees (bare t) (bare u) n ≡ identical_trees t u n
  identical_bare null null n = refl
  identical_bare (boolean a) (boolean b) n = refl
  identical_bare (integer a s) (integer b q) n = refl
  identical_bare (object a) (object b) n = refl
  identical_bare (text a) (text b) n = λ i. (Ok (same_bytes (bytes_bare a i) (bytes_bare b i)), n)
  identical_bare (array r l h) (array s m g) n = λ i. if eqb (length_bare r i) (length_bare s i) then identical_rows_bare r s n i else (Ok false, n)
  identical_bare t u n = refl

  identical_rows_bare : (r s : Row) (n : ℕ) → identical_rows (bare_row r) (bare_row s) n ≡ identical_rows r s n
  identical_rows_bare no_entry s n = refl
  identical_rows_bare (entry k t r) s zero = refl
  identical_rows_bare (entry k t r) no_entry (suc n) = refl
  identical_rows_bare (entry k t r) (entry j u s) (suc n) = λ i. and_then (if key_eq k j then identical_bare t u n i else (Ok false, n)) (λ m. identical_rows_bare r s m i)

pub ignores_labels : IgnoresLabels
ignores_labels = record { in_order = order_bare; equal = equal_bare; identical = identical_bare }
