-- Entries in memory, as the pairs that they are seen as.
use Rattle.std.proofs.Common.{◌≡◌, ℕ, ◌<◌, ◌≤◌, zero, suc, Bool, true, false, cond, if◌then◌else◌, ltb, ◌||◌, List, [], ◌∷◌, ◌++◌, refl, sym, ap, ◌∙◌, arith, length, get_or, set, remove, slice_get, Option, Some, None, Result, Ok, Err, OnOk}
use Rattle.std.specs.Prelude.{is_some}
use Rattle.std.specs.Option.{option_map}
use Rattle.std.specs.List.{position, position_or_len, list_any}
use Rattle.std.proofs.lemmas.List.Recursion.{is_position_or_len}
use Rattle.std.proofs.lemmas.Bool.{true≢false}
use Rattle.std.proofs.lemmas.Bool.Decides.{nat_tests}
use Rattle.resin_value.specs.declared.key.Key.{Key}
use Rattle.resin_value.specs.declared.value.Entry.{Entry}
use Rattle.resin_value.specs.declared.value.Value.{Value}
use Rattle.resin_value.specs.Keys.{key_eq}
use Rattle.resin_value.specs.Seen.{tree_of, pair_of, pairs_of, keys_of}
use Rattle.resin_value.specs.Changes.{lookup, put_at, remove_at}

-- the place of a key, the length where it isn't there
abbrev pub place : Key → List Key → ℕ
place k [] = 0
place k (j ∷ ks) = cond (key_eq k j) 0 (suc (place k ks))

place_is : (k : Key) (ks : List Key) → place k ks ≡ position_or_len (key_eq k) ks
place_is k = is_position_or_len (place k) (key_eq k) refl (λ j ks. ap (cond (key_eq k j) 0) (omega arith))

at_some : (b : Bool) (n i : ℕ) → Some i ≡ cond b (Some n) None → (n ≡ i) × (b ≡ true)
at_some true n i e = (cc, refl)
at_some false n i e = cc

at_none : (b : Bool) (n : ℕ) → None ≡ cond b (Some n) None → b ≡ false
at_none true n e = cc
at_none false n e = refl

pub in_own_words : (k : Key) (ks : List Key) → position (key_eq k) ks ≡ cond (ltb (place k ks) (length ks)) (Some (place k ks)) None
in_own_words k ks =
    (λ i. cond (ltb (sym (place_is k ks) i) (length ks)) (Some (sym (place_is k ks) i)) None)

-- what the list of keys says of a key that it has
pub found_place : (k : Key) (ks : List Key) (i : ℕ) → Some i ≡ position (key_eq k) ks → (place k ks ≡ i) × (i < length ks)
found_place k ks i e =
    let h = at_some _ _ i (e ∙ in_own_words k ks) in
    let at : place k ks ≡ i = h.0 in
    let within : ltb (place k ks) (length ks) ≡ true = h.1 in
    (at, grind (arith, nat_tests))

-- and of one that it lacks
pub past_place : (k : Key) (ks : List Key) → None ≡ position (key_eq k) ks → length ks ≤ place k ks
past_place k ks e =
    let past : ltb (place k ks) (length ks) ≡ false = at_none _ _ (e ∙ in_own_words k ks) in
    grind (arith, nat_tests)

module _ (k : Key) where
  pub lookup_there : (es : List Entry) (d : Entry) → place k (keys_of es) < length es → lookup k (pairs_of es) ≡ Some (tree_of (get_or es (place k (keys_of es)) d).value)
  lookup_there [] d h = absurd (omega arith)
  lookup_there (e ∷ es) d h =
      elim (key_eq k e.key) as (λ b. cond b 0 (suc (place k (keys_of es))) < length (e ∷ es) → (if b then Some (tree_of e.value) else lookup k (pairs_of es)) ≡ Some (tree_of (get_or (e ∷ es) (cond b 0 (suc (place k (keys_of es)))) d).value)) [
        | true ↦ λ _. refl
        | false ↦ λ lt. lookup_there es d (omega arith)
      ] h

  pub lookup_past : (es : List Entry) → length es ≤ place k (keys_of es) → lookup k (pairs_of es) ≡ None
  lookup_past [] h = refl
  lookup_past (e ∷ es) h =
      elim (key_eq k e.key) as (λ b. length (e ∷ es) ≤ cond b 0 (suc (place k (keys_of es))) → (if b then Some (tree_of e.value) else lookup k (pairs_of es)) ≡ None) [
        | true ↦ λ le. absurd (omega arith)
        | false ↦ λ le. lookup_past es (omega arith)
      ] h

  pub put_there : (w : Value) (es : List Entry) (d : Entry) → d ≡ get_or es (place k (keys_of es)) d → place k (keys_of es) < length es → pairs_of (set es (place k (keys_of es)) (record { key = d.key; value = w })) ≡ put_at k (tree_of w) (pairs_of es)
  put_there w [] d is h = absurd (omega arith)
  put_there w (e ∷ es) d is h =
      elim (key_eq k e.key) as (λ b. d ≡ get_or (e ∷ es) (cond b 0 (suc (place k (keys_of es)))) d → cond b 0 (suc (place k (keys_of es))) < length (e ∷ es) → pairs_of (set (e ∷ es) (cond b 0 (suc (place k (keys_of es)))) (record { key = d.key; value = w })) ≡ (if b then (e.key, tree_of w) ∷ pairs_of es else pair_of e ∷ put_at k (tree_of w) (pairs_of es))) [
        | true ↦ λ same _. ap (λ x. (x.key, tree_of w) ∷ pairs_of es) same
        | false ↦ λ same lt. ap (λ zs. pair_of e ∷ zs) (put_there w es d same (omega arith))
      ] is h

  pub remove_there : (es : List Entry) → place k (keys_of es) < length es → pairs_of (remove es (place k (keys_of es))) ≡ remove_at k (pairs_of es)
  remove_there [] h = absurd (omega arith)
  remove_there (e ∷ es) h =
      elim (key_eq k e.key) as (λ b. cond b 0 (suc (place k (keys_of es))) < length (e ∷ es) → pairs_of (remove (e ∷ es) (cond b 0 (suc (place k (keys_of es))))) ≡ (if b then pairs_of es else pair_of e ∷ remove_at k (pairs_of es))) [
        | true ↦ λ _. refl
        | false ↦ λ lt. ap (λ zs. pair_of e ∷ zs) (remove_there es (omega arith))
      ] h

  pub put_last : {X : Type 0} (x : X) (es : List (Key × X)) → lookup k es ≡ None → put_at k x es ≡ es ++ (k, x) ∷ []
  put_last x [] h = refl
  put_last x (e ∷ es) h =
      elim (key_eq k e.0) as (λ b. (if b then Some e.1 else lookup k es) ≡ None → (if b then (e.0, x) ∷ es else e ∷ put_at k x es) ≡ (e ∷ es) ++ (k, x) ∷ []) [
        | true ↦ λ n. absurd (true≢false (ap is_some n))
        | false ↦ λ n. ap (λ zs. e ∷ zs) (put_last x es n)
      ] h

  pub remove_absent : {X : Type 0} (es : List (Key × X)) → lookup k es ≡ None → remove_at k es ≡ es
  remove_absent [] h = refl
  remove_absent (e ∷ es) h =
      elim (key_eq k e.0) as (λ b. (if b then Some e.1 else lookup k es) ≡ None → (if b then es else e ∷ remove_at k es) ≡ e ∷ es) [
        | true ↦ λ n. absurd (true≢false (ap is_some n))
        | false ↦ λ n. ap (λ zs. e ∷ zs) (remove_absent es n)
      ] h

  -- a key without a value is new to the keys
  pub absent_key : (es : List Entry) → lookup k (pairs_of es) ≡ None → list_any (key_eq k) (keys_of es) ≡ false
  absent_key [] h = refl
  absent_key (e ∷ es) h =
      elim (key_eq k e.key) as (λ b. (if b then Some (tree_of e.value) else lookup k (pairs_of es)) ≡ None → (b || list_any (key_eq k) (keys_of es)) ≡ false) [
        | true ↦ λ n. absurd (true≢false (ap is_some n))
        | false ↦ λ n. absent_key es n
      ] h

-- ---- keys and pairs of changed lists
pub length-keys : (es : List Entry) → length (keys_of es) ≡ length es
length-keys [] = refl
length-keys (e ∷ es) = ap suc (length-keys es)

pub length-pairs : (es : List Entry) → length (pairs_of es) ≡ length es
length-pairs [] = refl
length-pairs (e ∷ es) = ap suc (length-pairs es)

pub pairs_push : (e : Entry) (es : List Entry) → pairs_of (es ++ e ∷ []) ≡ pairs_of es ++ pair_of e ∷ []
pairs_push e [] = refl
pairs_push e (d ∷ es) = ap (λ zs. pair_of d ∷ zs) (pairs_push e es)

pub keys_push : (e : Entry) (es : List Entry) → keys_of (es ++ e ∷ []) ≡ keys_of es ++ e.key ∷ []
keys_push e [] = refl
keys_push e (d ∷ es) = ap (λ zs. d.key ∷ zs) (keys_push e es)

pub keys_remove : (es : List Entry) (i : ℕ) → keys_of (remove es i) ≡ remove (keys_of es) i
keys_remove [] zero = refl
keys_remove [] (suc i) = refl
keys_remove (e ∷ es) zero = refl
keys_remove (e ∷ es) (suc i) = ap (λ zs. e.key ∷ zs) (keys_remove es i)

-- keys stay where a value is written
pub keys_set : (es : List Entry) (i : ℕ) (d : Entry) (w : Value) → d ≡ get_or es i d → keys_of (set es i (record { key = d.key; value = w })) ≡ keys_of es
keys_set [] zero d w is = refl
keys_set [] (suc i) d w is = refl
keys_set (e ∷ es) zero d w is = ap (λ x. x.key ∷ keys_of es) is
keys_set (e ∷ es) (suc i) d w is = ap (λ zs. e.key ∷ zs) (keys_set es i d w is)

pub pair_at : (es : List Entry) (i : ℕ) (e : Entry) → i < length es → e ≡ get_or es i e → slice_get (pairs_of es) i ≡ Some (pair_of e)
pair_at [] i e h is = absurd (omega arith)
pair_at (d ∷ es) zero e h is = ap (λ x. Some (pair_of x)) (sym is)
pair_at (d ∷ es) (suc i) e h is = pair_at es i e (omega arith) is

pub key_at : (es : List Entry) (i : ℕ) (e : Entry) → i < length es → e ≡ get_or es i e → slice_get (keys_of es) i ≡ Some e.key
key_at [] i e h is = absurd (omega arith)
key_at (d ∷ es) zero e h is = ap (λ x. Some x.key) (sym is)
key_at (d ∷ es) (suc i) e h is = key_at es i e (omega arith) is

-- what follows from a call that succeeded
pub on_ok : {T E P Q : Type 0} (r : Result T E) → (P → Q) → OnOk r P → OnOk r Q
on_ok (Ok x) f p = f p
on_ok (Err e) f p = tt

-- a look-up that finds nothing
pub looked_up_none : {X Y : Type 0} (f : X → Y) (r : Option X) (o : Option Y) → option_map f r ≡ o → is_some r ≡ false → o ≡ None
looked_up_none f None o e n = sym e
looked_up_none f (Some x) o e n = absurd (true≢false n)
