-- Two puts at one key, of which the later stands, and entries in inner arrays.
use Rattle.std.proofs.Common.{arith, ◌≡◌, ℕ, ℤ, ◌+◌, ◌<◌, List, [], ◌∷◌, length, Some, None, Bool, true, false, Option, refl, sym, ap, ◌∙◌, max}
use Rattle.std.specs.Prelude.{int_lt, IsTrue, is_none, if◌then◌else◌, Result, Ok, Err, IfOk, OnOk, MatchResult}
use Rattle.std.specs.declared.alloc.AllocError.{AllocError}
use Rattle.resin_value.specs.Under.bytes.Canonical.{canonical_integer}
use Rattle.resin_value.specs.declared.key.Key.{Key}
use Rattle.resin_value.specs.declared.key.Key.TheVariants.{Int, Text}
use Rattle.resin_value.specs.Keys.{key_eq, is_lawful, key_or_text, text_key}
use Rattle.resin_value.specs.Trees.{Tree, null}
use Rattle.resin_value.specs.Arrays.{EntryList, Array, entries_of-row_of}
use Rattle.resin_value.specs.Changes.{lookup, put_at, largest_with, next_of, put, appended}
use Rattle.resin_value.proofs.Keeps.{key_itself}
use Rattle.resin_inputs.specs.Forms.{as_value, array_in, array_or_new, with_entry, put_array, put_entry}

-- the key of a text may stand in an array
pub lawful-text_key : (b : List ℕ) → IsTrue (is_lawful (text_key b))
lawful-text_key b =
    elim (canonical_integer b) as (λ o. canonical_integer b ≡ o → IsTrue (is_lawful (key_or_text o b))) [
      | None ↦ λ e. ap is_none e
      | Some n ↦ λ e. refl
    ] refl

put_at_twice : (k : Key) (s t : Tree) (es : EntryList) → put_at k t (put_at k s es) ≡ put_at k t es
put_at_twice k s t [] = ap (λ b. if b then (k, t) ∷ [] else (k, s) ∷ (k, t) ∷ []) (key_itself k)
put_at_twice k s t (e ∷ es) =
    elim (key_eq k e.0) as (λ b. key_eq k e.0 ≡ b → put_at k t (if b then (e.0, s) ∷ es else e ∷ put_at k s es) ≡ (if b then (e.0, t) ∷ es else e ∷ put_at k t es)) [
      | true ↦ λ h. ap (λ b. if b then (e.0, t) ∷ es else (e.0, s) ∷ put_at k t es) h
      | false ↦ λ h. ap (λ b. if b then (e.0, t) ∷ put_at k s es else e ∷ put_at k t (put_at k s es)) h ∙ ap (λ zs. e ∷ zs) (put_at_twice k s t es)
    ] refl

same_either : {X : Type 0} (b : Bool) (x : X) → (if b then x else x) ≡ x
same_either true x = refl
same_either false x = refl

largest_twice : (k : Key) (l : Option ℤ) → largest_with k (largest_with k l) ≡ largest_with k l
largest_twice (Text b) l = refl
largest_twice (Int n) None = ap Some (same_either (int_lt n n) n)
largest_twice (Int n) (Some m) =
    elim (int_lt m n) as (λ b. int_lt m n ≡ b → largest_with (Int n) (Some (if b then n else m)) ≡ Some (if b then n else m)) [
      | true ↦ λ h. ap Some (same_either (int_lt n n) n)
      | false ↦ λ h. ap (λ b. Some (if b then n else m)) h
    ] refl

height_twice : (h g : ℕ) → max (max h 1) (g + 1) ≡ max h (g + 1)
height_twice h g = omega arith

-- an array that takes the place of null at a key stands there as if it had been put there at once
pub put_twice : (k : Key) (inner a : Array) → put k (as_value inner) (put k null a) ≡ put k (as_value inner) a
put_twice k inner a = λ i. record {
  entries = put_at_twice k null (as_value inner) a.entries i;
  largest = largest_twice k a.largest i;
  height = height_twice a.height inner.height i;
}

-- the value was put into the array at the key
pub entry_put : (key : Key) (k : List ℕ) (t : Tree) (a inner inner' middle new : Array) → inner ≡ array_or_new (lookup key a.entries) → Some inner' ≡ with_entry k t inner
    → middle ≡ put key null a → new ≡ put key (as_value inner') middle → new ≡ put_entry key k t a
entry_put key k t a inner inner' middle new is with_it mid last =
    last ∙ ap (put key (as_value inner')) mid ∙ put_twice key inner' a
    ∙ ap (λ o. put_array key o a) (with_it ∙ ap (with_entry k t) is)

-- there is no next key
pub entry_none : (key : Key) (k : List ℕ) (t : Tree) (a inner : Array) → k ≡ [] → inner ≡ array_or_new (lookup key a.entries) → next_of inner.largest ≡ None → a ≡ put_entry key k t a
entry_none key k t a inner nothing is none =
    let full : appended t inner ≡ None = ap (λ o. Rattle.std.specs.Option.option_map (λ n. put (Int n) t inner) o) none in
    sym (ap (λ j. put_entry key j t a) nothing ∙ ap (λ o. put_array key o a) (ap (appended t) (sym is) ∙ full))

-- a key that isn't empty
pub with_key : (k : List ℕ) (t : Tree) (a : Array) → 0 < length k → Some (put (text_key k) t a) ≡ with_entry k t a
with_key [] t a there = absurd (omega (arith, there))
with_key (c ∷ k) t a there = refl

pub without_key : (k : List ℕ) (t : Tree) (a : Array) → k ≡ [] → appended t a ≡ with_entry k t a
without_key k t a nothing = sym (ap (λ j. with_entry j t a) nothing)

array_back : (a : Array) → array_in (as_value a) ≡ a
array_back a = λ i. record { entries = entries_of-row_of a.entries i; largest = a.largest; height = a.height }

-- a copy of an array is the array that the value is
pub copied : (r : Result Array AllocError) (Q : AllocError → Type 0) (t : Tree) (a : Array) → t ≡ as_value a → MatchResult r (λ copy. copy ≡ a) Q
    → IfOk r (λ inner. inner ≡ array_in t)
copied (Ok x) Q t a e h = h ∙ sym (ap array_in e ∙ array_back a)
copied (Err x) Q t a e h = tt

-- what follows from what a call promises
pub on_ok : {T E : Type 0} (r : Result T E) (P Q : Type 0) → (P → Q) → OnOk r P → OnOk r Q
on_ok (Ok x) P Q f h = f h
on_ok (Err e) P Q f h = tt
