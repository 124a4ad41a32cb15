-- Comparisons of values (PHP manual, "Comparison Operators", in this project's profile without floats). Labels play no part in them. A comparison
-- of two arrays costs one tick for each pair that it looks at, charged before the pair, and ends at the first pair that differs or faults.
use Rattle.std.specs.Prelude.{ℕ, Bool, true, false, not, ◌==◌, ◌||◌, if◌then◌else◌, length, zero, suc, Option, None, Some, Result, Ok, Err}
use Rattle.std.specs.Ordering.{int_eq, bool_cmp, is_eq}
use Rattle.std.specs.declared.cmp.Ordering.{Ordering}
use Rattle.std.specs.declared.cmp.Ordering.TheVariants.{Equal}
use Rattle.resin_scalar.specs.Scalars.{Plain, null as plain_null, boolean as plain_boolean}
use Rattle.resin_scalar.specs.Scalars.{integer as plain_integer, text as plain_text, same_bytes, truth_of, order_of}
use Rattle.resin_scalar.specs.declared.scalar.NumFault.{NumFault}
use Rattle.resin_scalar.specs.declared.ticks.Spent.{Spent}
use Rattle.resin_lstr.specs.Texts.{bytes_of}
use Rattle.resin_value.specs.declared.compare.CompareFault.{CompareFault}
use Rattle.resin_value.specs.declared.compare.CompareFault.TheVariants.{Object, Operand, Float as FloatForm, Spent as FuelSpent}
use Rattle.resin_value.specs.Keys.{key_eq}
use Rattle.resin_value.specs.Trees.{Tree, Row, null, boolean, integer, text, array, object, no_entry, entry}
use Rattle.resin_value.specs.Arrays.{EntryList, entries_of}
use Rattle.resin_value.specs.Changes.{lookup}

-- the scalar that a value is, without its labels
abbrev pub scalar_of : Tree → Option Plain
scalar_of null = Some plain_null
scalar_of (boolean b) = Some (plain_boolean b)
scalar_of (integer n s) = Some (plain_integer n)
scalar_of (text t) = Some (plain_text (bytes_of t))
scalar_of (array r l h) = None
scalar_of (object n) = None

-- as a boolean (PHP manual, "Converting to boolean"): an array by whether it has entries; an object is true
abbrev pub is_true : Tree → Bool
is_true null = false
is_true (boolean b) = b
is_true (integer n s) = truth_of (plain_integer n)
is_true (text t) = truth_of (plain_text (bytes_of t))
is_true (array r l h) = not (length (entries_of r) == 0)
is_true (object n) = true

-- null and booleans compare with everything else as booleans
abbrev pub is_switch : Tree → Bool
is_switch null = true
is_switch (boolean b) = true
is_switch (integer n s) = false
is_switch (text t) = false
is_switch (array r l h) = false
is_switch (object n) = false

-- scalars are compared as numbers or as texts; where one is a text in a float form, a number with a point would be needed
abbrev pub scalar_order : Result Ordering NumFault → Result Ordering CompareFault
scalar_order (Ok o) = Ok o
scalar_order (Err e) = Err FloatForm

-- the same object is equal, any other use of an object is refused, and so is any other use of an array in an order
abbrev pub order_compound : Tree → Tree → Result Ordering CompareFault
order_compound (object m) (object n) = if m == n then Ok Equal else Err Object
order_compound (object m) u = Err Object
order_compound t (object n) = Err Object
order_compound t u = Err Operand

abbrev pub order_by : Option Plain → Option Plain → Tree → Tree → Result Ordering CompareFault
order_by (Some p) (Some q) t u = scalar_order (order_of p q)
order_by p q t u = if is_switch t || is_switch u then Ok (bool_cmp (is_true t) (is_true u)) else order_compound t u

-- the order of two values, as `<` and `<=>` ask for it
abbrev pub order_trees : Tree → Tree → Result Ordering CompareFault
order_trees t u = order_by (scalar_of t) (scalar_of u) t u

-- `==` of two values that aren't both arrays: an array is unequal to a scalar, and the rest is equal in order
abbrev pub equal_in_order : Result Ordering CompareFault → Result Bool CompareFault
equal_in_order (Ok o) = Ok (is_eq o)
equal_in_order (Err Operand) = Ok false
equal_in_order (Err e) = Err e

-- the answer of a comparison, and the ticks that are left
abbrev pub Charged : Type 0 → Type 0
Charged E = Result Bool E × ℕ

-- goes on with the ticks that are left, where the pairs so far don't differ
abbrev pub go_on : {E : Type 0} → Result Bool E → ℕ → (ℕ → Charged E) → Charged E
go_on (Ok true) n rest = rest n
go_on (Ok false) n rest = (Ok false, n)
go_on (Err e) n rest = (Err e, n)

abbrev pub and_then : {E : Type 0} → Charged E → (ℕ → Charged E) → Charged E
and_then first rest = go_on first.0 first.1 rest

-- compares with the value at a key; where no entry has the key, the arrays differ
abbrev pub with_value : {E : Type 0} → Option Tree → ℕ → (Tree → Charged E) → Charged E
with_value None n same = (Ok false, n)
with_value (Some u) n same = same u

-- `==` with so many ticks: two arrays are equal where they have as many entries and each pair of values is; the pairs are taken in the left one's
-- order
abbrev mutual
  pub equal_trees : Tree → Tree → ℕ → Charged CompareFault
  equal_trees (array r l h) (array s m g) n = if length (entries_of r) == length (entries_of s) then equal_rows r (entries_of s) n else (Ok false, n)
  equal_trees t u n = (equal_in_order (order_trees t u), n)

  pub equal_rows : Row → EntryList → ℕ → Charged CompareFault
  equal_rows no_entry es n = (Ok true, n)
  equal_rows (entry k t r) es zero = (Err FuelSpent, 0)
  equal_rows (entry k t r) es (suc n) = and_then (with_value (lookup k es) n (λ u. equal_trees t u n)) (λ m. equal_rows r es m)

abbrev pub same_truth : Bool → Bool → Bool
same_truth true b = b
same_truth false b = not b

abbrev pub spent : Spent
spent = record {}

-- `===` with so many ticks: the same kind and value; two arrays have as many entries, with the same keys in the same order and identical values
abbrev mutual
  pub identical_trees : Tree → Tree → ℕ → Charged Spent
  identical_trees null null n = (Ok true, n)
  identical_trees (boolean a) (boolean b) n = (Ok (same_truth a b), n)
  identical_trees (integer a s) (integer b q) n = (Ok (int_eq a b), n)
  identical_trees (text a) (text b) n = (Ok (same_bytes (bytes_of a) (bytes_of b)), n)
  identical_trees (object a) (object b) n = (Ok (a == b), n)
  identical_trees (array r l h) (array s m g) n = if length (entries_of r) == length (entries_of s) then identical_rows r s n else (Ok false, n)
  identical_trees t u n = (Ok false, n)

  pub identical_rows : Row → Row → ℕ → Charged Spent
  identical_rows no_entry s n = (Ok true, n)
  identical_rows (entry k t r) s zero = (Err spent, 0)
  identical_rows (entry k t r) no_entry (suc n) = (Ok false, n)
  identical_rows (entry k t r) (entry j u s) (suc n) =
      and_then (if key_eq k j then identical_trees t u n else (Ok false, n)) (λ m. identical_rows r s m)
