-- A comparison never gives ticks back.
use Rattle.std.proofs.Common.{◌≤◌, ℕ, zero, suc, Bool, true, false, length, Option, None, Some, Result, Ok, Err, arith}
use Rattle.std.specs.Prelude.{◌==◌, if◌then◌else◌}
use Rattle.resin_meaning_forms.specs.Under.value.Trees.{Tree, Row, null, boolean, integer, text, array, object, no_entry, entry}
use Rattle.resin_meaning_forms.specs.Under.value.Arrays.{EntryList, entries_of}
use Rattle.resin_meaning_forms.specs.Under.value.Changes.{lookup}
use Rattle.resin_meaning_forms.specs.Under.value.Keys.{key_eq}
use Rattle.resin_meaning_forms.specs.Under.value.Compare.{Charged, go_on, with_value, equal_trees, equal_rows, identical_trees, identical_rows}

one_falls : {E : Type 0} (b : Bool) (x y : Charged E) (n : ℕ) → x.1 ≤ n → y.1 ≤ n → (if b then x else y).1 ≤ n
one_falls true x y n hx hy = hx
one_falls false x y n hx hy = hy

on_falls : {E : Type 0} (r : Result Bool E) (k n : ℕ) (rest : ℕ → Charged E) → k ≤ n → ((m : ℕ) → (rest m).1 ≤ m) → (go_on r k rest).1 ≤ n
on_falls (Ok true) k n rest h f = let g : (rest k).1 ≤ k = f k in omega (arith, g, h)
on_falls (Ok false) k n rest h f = h
on_falls (Err e) k n rest h f = h

value_falls : {E : Type 0} (o : Option Tree) (n : ℕ) (same : Tree → Charged E) → ((u : Tree) → (same u).1 ≤ n) → (with_value o n same).1 ≤ n
value_falls None n same f = omega arith
value_falls (Some u) n same f = f u

le_suc : (k n : ℕ) → k ≤ n → k ≤ suc n
le_suc k n h = omega (arith, h)

mutual
  pub equal_falls : (t u : Tree) (n : ℕ) → (equal_trees t u n).1 ≤ n
  equal_falls (array r l h) (array s m g) n = one_falls (length (entries_of r) == length (entries_of s)) _ _ n (rows_fall r (entries_of s) n) (omega arith)
  equal_falls t u n = omega arith

  rows_fall : (r : Row) (es : EntryList) (n : ℕ) → (equal_rows r es n).1 ≤ n
  rows_fall no_entry es n = omega arith
  rows_fall (entry k t r) es zero = omega arith
  rows_fall (entry k t r) es (suc n) =
      on_falls _ _ (suc n) (λ m. equal_rows r es m) (le_suc _ n (value_falls (lookup k es) n (λ u. equal_trees t u n) (λ u. equal_falls t u n))) (λ m. rows_fall r es m)

mutual
  pub identical_falls : (t u : Tree) (n : ℕ) → (identical_trees t u n).1 ≤ n
  identical_falls (array r l h) (array s m g) n = one_falls (length (entries_of r) == length (entries_of s)) _ _ n (identical_rows_fall r s n) (omega arith)
  identical_falls null null n = omega arith
  identical_falls (boolean a) (boolean b) n = omega arith
  identical_falls (integer a s) (integer b q) n = omega arith
  identical_falls (text a) (text b) n = omega arith
  identical_falls (object a) (object b) n = omega arith
  identical_falls t u n = omega arith

  identical_rows_fall : (r s : Row) (n : ℕ) → (identical_rows r s n).1 ≤ n
  identical_rows_fall no_entry s n = omega arith
  identical_rows_fall (entry k t r) s zero = omega arith
  identical_rows_fall (entry k t r) no_entry (suc n) = le_suc n n (omega arith)
  identical_rows_fall (entry k t r) (entry j u s) (suc n) =
      on_falls _ _ (suc n) (λ m. identical_rows r s m) (le_suc _ n (one_falls (key_eq k j) _ _ n (identical_falls t u n) (omega arith))) (λ m. identical_rows_fall r s m)
