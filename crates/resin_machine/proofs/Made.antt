-- A new object, and its fields.
use Rattle.std.proofs.Common.{◌≡◌, ℕ, ◌+◌, ◌-◌, ◌<◌, ◌≤◌, List, [], ◌∷◌, ◌++◌, length, Some, Bool, true, false, ◌&&◌, nat_lt, nat_le, refl, ap, ◌∙◌, arith, length-append}
use Rattle.std.specs.Prelude.{slice_get, slice_set}
use Rattle.std.specs.Option.{option_map_or}
use Rattle.std.proofs.lemmas.Bool.Decides.{nat_tests}
use Rattle.resin_heap.specs.Under.value.Values.{FieldList}
use Rattle.resin_heap.specs.declared.heap.Object.{Object}
use Rattle.resin_heap.specs.Objects.{IsObject, class_at, fields_at, with_fields}
use Rattle.resin_machine.specs.Objects.{is_object}

-- the number is that of an object
pub object_of : (heap : List Object) (o : ℕ) → is_object heap o ≡ true → IsObject heap o
object_of heap o h = record { first = first; last = last }
  where
    both : (a b : Bool) → (a && b) ≡ true → (a ≡ true) × (b ≡ true)
    both true b h = (refl, h)
    both false b h = absurd (cc)

    first : 0 < o
    first = let p : nat_lt 0 o ≡ true = (both (nat_lt 0 o) (nat_le o (length heap)) h).0 in grind (arith, nat_tests)

    last : o ≤ length heap
    last = let p : nat_le o (length heap) ≡ true = (both (nat_lt 0 o) (nat_le o (length heap)) h).1 in grind (arith, nat_tests)

get_last : (xs : List Object) (x : Object) → slice_get (xs ++ x ∷ []) (length xs) ≡ Some x
get_last [] x = refl
get_last (y ∷ xs) x = get_last xs x

set_last : (xs : List Object) (x y : Object) → slice_set (xs ++ x ∷ []) (length xs) y ≡ xs ++ y ∷ []
set_last [] x y = refl
set_last (z ∷ xs) x y = ap (λ zs. z ∷ zs) (set_last xs x y)

at_last : (xs : List Object) → (length xs + 1) - 1 ≡ length xs
at_last xs = omega arith

-- the last object
pub class_at-last : (xs : List Object) (x : Object) → class_at (xs ++ x ∷ []) (length xs + 1) ≡ x.class
class_at-last xs x = ap (λ n. option_map_or (λ (y : Object). y.class) (slice_get (xs ++ x ∷ []) n) 0) (at_last xs) ∙ ap (λ o. option_map_or (λ (y : Object). y.class) o 0) (get_last xs x)

pub fields_at-last : (xs : List Object) (x : Object) → fields_at (xs ++ x ∷ []) (length xs + 1) ≡ x.fields
fields_at-last xs x = ap (λ n. option_map_or (λ (y : Object). y.fields) (slice_get (xs ++ x ∷ []) n) []) (at_last xs) ∙ ap (λ o. option_map_or (λ (y : Object). y.fields) o []) (get_last xs x)

-- other fields of the last object
pub with_fields-last : (xs : List Object) (class : ℕ) (old fields : FieldList) → with_fields (xs ++ record { class = class; fields = old } ∷ []) (length xs + 1) fields ≡ xs ++ record { class = class; fields = fields } ∷ []
with_fields-last xs class old fields =
    let x : Object = record { class = class; fields = old } in
    (λ i. slice_set (xs ++ x ∷ []) (at_last xs i) (record { class = class_at-last xs x i; fields = fields }))
    ∙ set_last xs x (record { class = class; fields = fields })

pub last_object : (xs : List Object) (x : Object) → IsObject (xs ++ x ∷ []) (length xs + 1)
last_object xs x = record { first = omega arith; last = omega (arith, length-append xs (x ∷ [])) }
