-- A value that is put where another was put just before.
use Rattle.std.proofs.Common.{◌≡◌, ℕ, ℤ, ◌+◌, ◌≤◌, max, List, [], ◌∷◌, Bool, true, false, cond, nat_lt, Option, Some, None, Result, Ok, Err, refl, sym, ap, ◌∙◌, arith}
use Rattle.std.specs.Prelude.{int_lt}
use Rattle.std.proofs.lemmas.Bool.Decides.{nat_tests}
use Rattle.resin_ops.specs.Under.scalar.declared.faults.ScriptFault.TheVariants.{ArrayTooDeep}
use Rattle.resin_ops.specs.Under.scalar.declared.faults.CallStop.TheVariants.{Fault as CallFault}
use Rattle.resin_ops.specs.Under.value.declared.key.Key.{Key}
use Rattle.resin_ops.specs.Under.value.declared.key.Key.TheVariants.{Int as IntKey, Text as TextKey}
use Rattle.resin_ops.specs.Under.value.Keys.{key_eq}
use Rattle.resin_ops.specs.Under.value.declared.value.Value.{Value}
use Rattle.resin_ops.specs.Under.value.declared.value.Value.TheVariants.{Arr}
use Rattle.resin_ops.specs.Under.value.Trees.{Tree, null, boolean, integer, text, array, object}
use Rattle.resin_ops.specs.Under.value.Seen.{tree_of}
use Rattle.resin_ops.specs.Under.value.Arrays.{Array}
use Rattle.resin_ops.specs.Under.value.Changes.{put_at, put, largest_with, raised, height_in}
use Rattle.resin_ops.proofs.value_lemmas.Keeps.{key_itself}
use Rattle.resin_target.specs.Stores.{put_in}

put_at_twice : (k : Key) (x y : Tree) (es : List (Key × Tree)) → put_at k y (put_at k x es) ≡ put_at k y es
put_at_twice k x y [] = ap (λ b. cond b ((k, y) ∷ []) ((k, x) ∷ (k, y) ∷ [])) (key_itself k)
put_at_twice k x y (e ∷ es) =
    elim (key_eq k e.0) as (λ b. key_eq k e.0 ≡ b → put_at k y (cond b ((e.0, x) ∷ es) (e ∷ put_at k x es)) ≡ cond b ((e.0, y) ∷ es) (e ∷ put_at k y es)) [
      | true ↦ λ f. ap (λ b. cond b ((e.0, y) ∷ es) ((e.0, x) ∷ put_at k y es)) f
      | false ↦ λ f. ap (λ b. cond b ((e.0, y) ∷ put_at k x es) (e ∷ put_at k y (put_at k x es))) f ∙ ap (λ zs. e ∷ zs) (put_at_twice k x y es)
    ] refl

either_same : (b : Bool) (n : ℤ) → cond b n n ≡ n
either_same true n = refl
either_same false n = refl

largest_twice : (k : Key) (l : Option ℤ) → largest_with k (largest_with k l) ≡ largest_with k l
largest_twice (IntKey n) None = ap Some (either_same (int_lt n n) n)
largest_twice (IntKey n) (Some m) =
    elim (int_lt m n) as (λ b. int_lt m n ≡ b → largest_with (IntKey n) (Some (cond b n m)) ≡ Some (cond b n m)) [
      | true ↦ λ f. ap Some (either_same (int_lt n n) n)
      | false ↦ λ f. ap (λ b. Some (cond b n m)) f
    ] refl
largest_twice (TextKey t) l = refl

at_least_one : (t : Tree) → 1 ≤ height_in t
at_least_one null = omega arith
at_least_one (boolean b) = omega arith
at_least_one (integer n s) = omega arith
at_least_one (text t) = omega arith
at_least_one (array r l h) = omega arith
at_least_one (object n) = omega arith

max_twice : (h n : ℕ) → 1 ≤ n → max (max h 1) n ≡ max h n
max_twice h n le = grind (arith, nat_tests)

raised_twice : (h : ℕ) (t : Tree) → raised (raised h null) t ≡ raised h t
raised_twice h t = max_twice h (height_in t) (at_least_one t)

-- null put at a key leaves what a value put there next gives
pub put_twice : (k : Key) (v : Value) (a : Array) → put_in k v (put k null a) ≡ put_in k v a
put_twice k v a =
    λ i. cond (nat_lt 100 (raised_twice a.height (tree_of v) i)) (Err (CallFault ArrayTooDeep))
    (Ok (Arr (record { entries = put_at_twice k null (tree_of v) a.entries i; largest = largest_twice k a.largest i; height = raised_twice a.height (tree_of v) i })))
