-- What every array keeps, over changes.
use Rattle.std.proofs.Common.{◌≡◌, ℤ, pos, ◌+ℤ◌, ◌≤ℤ◌, ◌≤◌, true, false, if◌then◌else◌, List, [], ◌∷◌, refl, sym, ap, ◌∙◌, arith, Option, Some, None}
use Rattle.std.specs.Prelude.{is_some, int_lt, IsTrue}
use Rattle.std.specs.Ordering.{int_eq}
use Rattle.std.proofs.lemmas.Int.{ints}
use Rattle.std.proofs.lemmas.Bool.{true≢false, false≢true, false_from_ne_true}
use Rattle.std.proofs.lemmas.Bool.Decides.{Decides-int_eq}
use Rattle.std.proofs.lemmas.Slice.Eq.{bytes_eq-Decides}
use Rattle.resin_value.specs.declared.key.Key.{Key}
use Rattle.resin_value.specs.declared.key.Key.TheVariants.{Int, Text}
use Rattle.resin_value.specs.Trees.{Tree}
use Rattle.resin_value.specs.Arrays.{Array}
use Rattle.resin_value.specs.Keys.{key_eq, is_lawful}
use Rattle.resin_value.specs.Changes.{lookup, put_at, remove_at, raised, largest_with, next_of, put, without, IsApart, AreLawful, IsUsed, AreUsed, IsArray}

-- ---- the test of keys decides whether they are equal
pub same_key : (a b : Key) → key_eq a b ≡ true → a ≡ b
same_key (Int m) (Int n) e = ap Int ((Decides-int_eq m n).0 e)
same_key (Text a) (Text b) e = ap Text ((bytes_eq-Decides a b).0 e)
same_key (Int m) (Text b) e = absurd (false≢true e)
same_key (Text a) (Int n) e = absurd (false≢true e)

pub key_itself : (a : Key) → key_eq a a ≡ true
key_itself (Int m) = (Decides-int_eq m m).1 refl
key_itself (Text a) = (bytes_eq-Decides a a).1 refl

pub other_key : (a b : Key) → key_eq a b ≡ false → key_eq b a ≡ false
other_key a b f = false_from_ne_true (key_eq b a) (λ t. false≢true (sym f ∙ ap (key_eq a) (same_key b a t) ∙ key_itself a))

some_none : {X : Type 0} (x : X) → Some x ≡ None → ⊥
some_none x e = true≢false (ap is_some e)

-- ---- the largest integer key ever used
still_used : (l : Option ℤ) (k j : Key) → IsUsed l j → IsUsed (largest_with k l) j
still_used l k (Text b) u = tt
still_used None k (Int j) u = absurd u
still_used (Some m) (Text b) (Int j) u = u
still_used (Some m) (Int n) (Int j) u =
    elim (int_lt m n) as (λ b. int_lt m n ≡ b → j ≤ℤ (if b then n else m)) [ true ↦ λ less. omega (arith, ints) | false ↦ λ _. u ] refl

now_used : (l : Option ℤ) (k : Key) → IsUsed (largest_with k l) k
now_used l (Text b) = tt
now_used None (Int n) = omega (arith, ints)
now_used (Some m) (Int n) =
    elim (int_lt m n) as (λ b. int_lt m n ≡ b → n ≤ℤ (if b then n else m)) [ true ↦ λ _. omega (arith, ints) | false ↦ λ more. omega (arith, ints) ] refl

other_number : (m n j : ℤ) → (if int_lt m (pos 9223372036854775807) then Some (m +ℤ pos 1) else None) ≡ Some n → j ≤ℤ m → int_eq n j ≡ false
other_number m n j e u =
    false_from_ne_true (int_eq n j) (λ t.
    let same : n ≡ j = (Decides-int_eq n j).0 t in
    elim (int_lt m (pos 9223372036854775807)) as (λ b. (if b then Some (m +ℤ pos 1) else None) ≡ Some n → ⊥) [
      | true ↦ λ f. let g : m +ℤ pos 1 ≡ n = cc in omega (arith, ints)
      | false ↦ λ f. some_none n (sym f)
    ] e)

-- the next key becomes the largest used
pub next_largest : (l : Option ℤ) (n : ℤ) → next_of l ≡ Some n → Some n ≡ largest_with (Int n) l
next_largest None n e = refl
next_largest (Some m) n e =
    elim (int_lt m (pos 9223372036854775807)) as (λ b. (if b then Some (m +ℤ pos 1) else None) ≡ Some n → Some n ≡ Some (if int_lt m n then n else m)) [
      | true ↦ λ f.
          let g : m +ℤ pos 1 ≡ n = cc in
          elim (int_lt m n) as (λ b. int_lt m n ≡ b → Some n ≡ Some (if b then n else m)) [ true ↦ λ _. refl | false ↦ λ more. absurd (omega (arith, ints)) ] refl
      | false ↦ λ f. absurd (some_none n (sym f))
    ] e

module _ {X : Type 0} where
  -- ---- no key stands twice
  absent_put : (j k : Key) (x : X) (es : List (Key × X)) → lookup j es ≡ None → key_eq j k ≡ false → lookup j (put_at k x es) ≡ None
  absent_put j k x [] h f = ap (λ b. if b then Some x else None) f
  absent_put j k x (e ∷ es) h f =
      elim (key_eq j e.0) as (λ b. key_eq j e.0 ≡ b → (if b then Some e.1 else lookup j es) ≡ None → lookup j (if key_eq k e.0 then (e.0, x) ∷ es else e ∷ put_at k x es) ≡ None) [
        | true ↦ λ _ n. absurd (some_none e.1 n)
        | false ↦ λ g n. elim (key_eq k e.0) as (λ d. lookup j (if d then (e.0, x) ∷ es else e ∷ put_at k x es) ≡ None) [
          | true ↦ ap (λ b. if b then Some x else lookup j es) g ∙ n
          | false ↦ ap (λ b. if b then Some e.1 else lookup j (put_at k x es)) g ∙ absent_put j k x es n f
        ]
      ] refl h

  apart_put : (k : Key) (x : X) (es : List (Key × X)) → IsApart es → IsApart (put_at k x es)
  apart_put k x [] u = (refl, tt)
  apart_put k x (e ∷ es) u =
      elim (key_eq k e.0) as (λ b. key_eq k e.0 ≡ b → IsApart (if b then (e.0, x) ∷ es else e ∷ put_at k x es)) [
        | true ↦ λ _. u
        | false ↦ λ f. (absent_put e.0 k x es u.0 (other_key k e.0 f), apart_put k x es u.1)
      ] refl

  absent_remove : (j k : Key) (es : List (Key × X)) → lookup j es ≡ None → lookup j (remove_at k es) ≡ None
  absent_remove j k [] h = refl
  absent_remove j k (e ∷ es) h =
      elim (key_eq j e.0) as (λ b. key_eq j e.0 ≡ b → (if b then Some e.1 else lookup j es) ≡ None → lookup j (if key_eq k e.0 then es else e ∷ remove_at k es) ≡ None) [
        | true ↦ λ _ n. absurd (some_none e.1 n)
        | false ↦ λ g n. elim (key_eq k e.0) as (λ d. lookup j (if d then es else e ∷ remove_at k es) ≡ None) [
          | true ↦ n
          | false ↦ ap (λ b. if b then Some e.1 else lookup j (remove_at k es)) g ∙ absent_remove j k es n
        ]
      ] refl h

  apart_remove : (k : Key) (es : List (Key × X)) → IsApart es → IsApart (remove_at k es)
  apart_remove k [] u = tt
  apart_remove k (e ∷ es) u =
      elim (key_eq k e.0) as (λ b. IsApart (if b then es else e ∷ remove_at k es)) [
        | true ↦ u.1
        | false ↦ (absent_remove e.0 k es u.0, apart_remove k es u.1)
      ]

  -- ---- keys that may stand in an array
  lawful_put : (k : Key) (x : X) (es : List (Key × X)) → IsTrue (is_lawful k) → AreLawful es → AreLawful (put_at k x es)
  lawful_put k x [] h u = (h, tt)
  lawful_put k x (e ∷ es) h u =
      elim (key_eq k e.0) as (λ b. AreLawful (if b then (e.0, x) ∷ es else e ∷ put_at k x es)) [ true ↦ u | false ↦ (u.0, lawful_put k x es h u.1) ]

  lawful_remove : (k : Key) (es : List (Key × X)) → AreLawful es → AreLawful (remove_at k es)
  lawful_remove k [] u = tt
  lawful_remove k (e ∷ es) u =
      elim (key_eq k e.0) as (λ b. AreLawful (if b then es else e ∷ remove_at k es)) [ true ↦ u.1 | false ↦ (u.0, lawful_remove k es u.1) ]

  all_used : (l : Option ℤ) (k : Key) (es : List (Key × X)) → AreUsed l es → AreUsed (largest_with k l) es
  all_used l k [] u = tt
  all_used l k (e ∷ es) u = (still_used l k e.0 u.0, all_used l k es u.1)

  used_put : (l : Option ℤ) (k : Key) (x : X) (es : List (Key × X)) → AreUsed l es → AreUsed (largest_with k l) (put_at k x es)
  used_put l k x [] u = (now_used l k, tt)
  used_put l k x (e ∷ es) u =
      elim (key_eq k e.0) as (λ b. AreUsed (largest_with k l) (if b then (e.0, x) ∷ es else e ∷ put_at k x es)) [
        | true ↦ (still_used l k e.0 u.0, all_used l k es u.1)
        | false ↦ (still_used l k e.0 u.0, used_put l k x es u.1)
      ]

  used_remove : (l : Option ℤ) (k : Key) (es : List (Key × X)) → AreUsed l es → AreUsed l (remove_at k es)
  used_remove l k [] u = tt
  used_remove l k (e ∷ es) u =
      elim (key_eq k e.0) as (λ b. AreUsed l (if b then es else e ∷ remove_at k es)) [ true ↦ u.1 | false ↦ (u.0, used_remove l k es u.1) ]

  -- the next key is new
  pub fresh_key : (l : Option ℤ) (n : ℤ) (es : List (Key × X)) → next_of l ≡ Some n → AreUsed l es → lookup (Int n) es ≡ None
  fresh_key l n [] h u = refl
  fresh_key l n ((Text b, x) ∷ es) h u = fresh_key l n es h u.1
  fresh_key None n ((Int j, x) ∷ es) h u = absurd u.0
  fresh_key (Some m) n ((Int j, x) ∷ es) h u = ap (λ b. if b then Some x else lookup (Int n) es) (other_number m n j h u.0) ∙ fresh_key (Some m) n es h u.1

pub IsArray-put : (k : Key) (t : Tree) (a : Array) → IsTrue (is_lawful k) → raised a.height t ≤ 100 → IsArray a → IsArray (put k t a)
IsArray-put k t a lawful low u = record {
  low = low;
  apart = apart_put k t a.entries u.apart;
  lawful = lawful_put k t a.entries lawful u.lawful;
  used = used_put a.largest k t a.entries u.used;
}

pub IsArray-without : (k : Key) (a : Array) → IsArray a → IsArray (without k a)
IsArray-without k a u = record {
  low = u.low;
  apart = apart_remove k a.entries u.apart;
  lawful = lawful_remove k a.entries u.lawful;
  used = used_remove a.largest k a.entries u.used;
}
