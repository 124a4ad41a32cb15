-- Where keys stand, over changes of their order.
use Rattle.std.proofs.Common.{◌≡◌, ◌≢◌, ℕ, pos, negsuc, ◌<◌, ◌≤◌, ◌+◌, ◌-◌, zero, suc, Bool, true, false, cond, if◌then◌else◌, ltb, ◌||◌, List, [], ◌∷◌, ◌++◌, refl, sym, ap, ◌∙◌, arith, length, get_or, map, take, remove, slice_get, Option, Some, None}
use Rattle.std.specs.Prelude.{is_some, ◌↔◌}
use Rattle.std.specs.Option.{option_map, SomeIff}
use Rattle.std.specs.List.{position, list_any}
use Rattle.std.specs.Map as std
use Rattle.std.specs.BTreeMap.{BTreeMap, is_at}
use Rattle.std.specs.Cmp.Lexicographic.{texts_ties}
use Rattle.std.proofs.lemmas.Option.{slice_get_within, slice_get-get_or}
use Rattle.std.proofs.lemmas.Bool.{true≢false, false≢true, false_from_ne_true}
use Rattle.std.proofs.lemmas.Bool.Decides.{nat_tests}
use Rattle.resin_value.specs.declared.key.Key.{Key}
use Rattle.resin_value.specs.declared.key.Key.TheVariants.{Int, Text}
use Rattle.resin_value.specs.declared.places.Numbers.TheVariants.{Counting}
use Rattle.resin_value.specs.Keys.{key_eq}
use Rattle.resin_value.specs.Changes.{lookup}
use Rattle.resin_value.specs.Placed.{counted, closed_up, IsNumbered, AreNumbered}
use Rattle.resin_value.specs.contracts.key.KeyOrd.TheImpl.{cmp-value}
use Rattle.resin_value.proofs.Pairs.{place, in_own_words}
use Rattle.resin_value.proofs.Keeps.{same_key, key_itself}

some_none : {X : Type 0} (x : X) → Some x ≡ None → ⊥
some_none x e = true≢false (ap is_some e)

-- ---- places in a list
-- the place in a list before the one at i was taken out
abbrev opened_up : ℕ → ℕ → ℕ
opened_up i n = if ltb n i then n else suc n

one_less : (n : ℕ) → suc n - 1 ≡ n
one_less n = omega arith

positive : (i : ℕ) → i ≢ 0 → 0 < i
positive zero other = absurd (other refl)
positive (suc i) other = omega arith

beyond : (i n : ℕ) → i ≢ suc n → suc n ≤ i → suc n < i
beyond i n other le = elim (ltb (suc n) i) as (λ b. ltb (suc n) i ≡ b → suc n < i) [
  | true ↦ λ f. grind (arith, nat_tests)
  | false ↦ λ f. absurd (other (let g : i ≤ suc n = grind (arith, nat_tests) in omega (arith, g, le)))
] refl

closed_opened : (i n : ℕ) → closed_up i (opened_up i n) ≡ n
closed_opened i n =
    elim (ltb n i) as (λ b. ltb n i ≡ b → closed_up i (if b then n else suc n) ≡ n) [
      | true ↦ λ f. ap (λ b. if b then n - 1 else n) (let g : ltb i n ≡ false = grind (arith, nat_tests) in g)
      | false ↦ λ f. ap (λ b. if b then suc n - 1 else suc n) (let g : ltb i (suc n) ≡ true = grind (arith, nat_tests) in g) ∙ one_less n
    ] refl

-- the same of numbers
shifted : (first i j : ℕ) → closed_up (first + i) (first + j) ≡ first + closed_up i j
shifted first i j =
    elim (ltb i j) as (λ b. ltb i j ≡ b → closed_up (first + i) (first + j) ≡ first + (if b then j - 1 else j)) [
      | true ↦ λ f.
          let less : i < j = grind (arith, nat_tests) in
          let g : ltb (first + i) (first + j) ≡ true = grind (arith, nat_tests) in
          let e : first + j - 1 ≡ first + (j - 1) = omega (arith, less) in
          ap (λ b. if b then first + j - 1 else first + j) g ∙ e
      | false ↦ λ f.
          let more : j ≤ i = grind (arith, nat_tests) in
          let g : ltb (first + i) (first + j) ≡ false = grind (arith, nat_tests) in
          ap (λ b. if b then first + j - 1 else first + j) g
    ] refl

below : (i j : ℕ) → j ≢ i → j < i + 1 → j < i
below i j other le = elim (ltb j i) as (λ b. ltb j i ≡ b → j < i) [
  | true ↦ λ f. grind (arith, nat_tests)
  | false ↦ λ f. absurd (other (let g : i ≤ j = grind (arith, nat_tests) in omega (arith, g, le)))
] refl

opened_other : (i n : ℕ) → i ≢ opened_up i n
opened_other i n =
    elim (ltb n i) as (λ b. ltb n i ≡ b → i ≢ (if b then n else suc n)) [
      | true ↦ λ f e. absurd (let g : n < i = grind (arith, nat_tests) in omega (arith, e, g))
      | false ↦ λ f e. absurd (let g : i ≤ n = grind (arith, nat_tests) in omega (arith, e, g))
    ] refl

module _ {X : Type 0} where
  pub get_within : (xs ys : List X) (n : ℕ) (x : X) → slice_get xs n ≡ Some x → slice_get (xs ++ ys) n ≡ Some x
  get_within [] ys n x e = absurd (some_none x (sym e))
  get_within (y ∷ xs) ys zero x e = e
  get_within (y ∷ xs) ys (suc n) x e = get_within xs ys n x e

  pub get_last : (xs : List X) (x : X) → slice_get (xs ++ x ∷ []) (length xs) ≡ Some x
  get_last [] x = refl
  get_last (y ∷ xs) x = get_last xs x

  -- what stands in a list with one more stood there before, or is the last
  pub get_longer : (xs : List X) (x : X) (n : ℕ) (y : X) → slice_get (xs ++ x ∷ []) n ≡ Some y → (P : Type 0) → (slice_get xs n ≡ Some y → P) → (n ≡ length xs → y ≡ x → P) → P
  get_longer [] x zero y e P before last = last refl (let f : x ≡ y = cc in sym f)
  get_longer [] x (suc n) y e P before last = absurd (some_none y (sym e))
  get_longer (z ∷ xs) x zero y e P before last = before e
  get_longer (z ∷ xs) x (suc n) y e P before last = get_longer xs x n y e P before (λ is. last (ap suc is))

  -- before and after the one at i is taken out
  still_before : (xs : List X) (i n : ℕ) → n < i → slice_get (remove xs i) n ≡ slice_get xs n
  still_before [] zero n less = absurd (omega (arith, less))
  still_before [] (suc i) n less = refl
  still_before (y ∷ xs) zero n less = absurd (omega (arith, less))
  still_before (y ∷ xs) (suc i) zero less = refl
  still_before (y ∷ xs) (suc i) (suc n) less = still_before xs i n (omega (arith, less))

  moved_behind : (xs : List X) (i n : ℕ) → i ≤ n → slice_get (remove xs i) n ≡ slice_get xs (suc n)
  moved_behind [] zero n le = refl
  moved_behind [] (suc i) n le = refl
  moved_behind (y ∷ xs) zero n le = refl
  moved_behind (y ∷ xs) (suc i) zero le = absurd (omega (arith, le))
  moved_behind (y ∷ xs) (suc i) (suc n) le = moved_behind xs i n (omega (arith, le))

  get_opened : (xs : List X) (i n : ℕ) (x : X) → slice_get (remove xs i) n ≡ Some x → slice_get xs (opened_up i n) ≡ Some x
  get_opened xs i n x e =
      elim (ltb n i) as (λ b. ltb n i ≡ b → slice_get xs (if b then n else suc n) ≡ Some x) [
        | true ↦ λ f. sym (still_before xs i n (let g : n < i = grind (arith, nat_tests) in g)) ∙ e
        | false ↦ λ f. sym (moved_behind xs i n (let g : i ≤ n = grind (arith, nat_tests) in g)) ∙ e
      ] refl

  get_closed : (xs : List X) (i n : ℕ) (x : X) → n ≢ i → slice_get xs n ≡ Some x → slice_get (remove xs i) (closed_up i n) ≡ Some x
  get_closed xs i zero x other e =
      elim (ltb i 0) as (λ b. ltb i 0 ≡ b → slice_get (remove xs i) (if b then 0 - 1 else 0) ≡ Some x) [
        | true ↦ λ f. absurd (let g : i < 0 = grind (arith, nat_tests) in omega (arith, g))
        | false ↦ λ f. still_before xs i 0 (positive i (λ is. other (sym is))) ∙ e
      ] refl
  get_closed xs i (suc n) x other e =
      elim (ltb i (suc n)) as (λ b. ltb i (suc n) ≡ b → slice_get (remove xs i) (if b then suc n - 1 else suc n) ≡ Some x) [
        | true ↦ λ f. ap (slice_get (remove xs i)) (one_less n) ∙ moved_behind xs i n (let g : i < suc n = grind (arith, nat_tests) in omega (arith, g)) ∙ e
        | false ↦ λ f. still_before xs i (suc n) (beyond i n (λ is. other (sym is)) (let g : suc n ≤ i = grind (arith, nat_tests) in g)) ∙ e
      ] refl

  -- what stands in a list without its last stood there before
  before_last : (xs : List X) (i n : ℕ) (x : X) → i + 1 ≡ length xs → slice_get (remove xs i) n ≡ Some x → (n < i) × (slice_get xs n ≡ Some x)
  before_last xs i n x last e =
      elim (ltb n i) as (λ b. ltb n i ≡ b → slice_get xs (if b then n else suc n) ≡ Some x → (n < i) × (slice_get xs n ≡ Some x)) [
        | true ↦ λ f there. (grind (arith, nat_tests), there)
        | false ↦ λ f there. absurd (let g : i ≤ n = grind (arith, nat_tests) in omega (arith, g, last, slice_get_within xs (suc n) x there))
      ] refl (get_opened xs i n x e)

  -- the first i
  get_taken : (xs : List X) (i n : ℕ) (x : X) → slice_get (take i xs) n ≡ Some x → (n < i) × (slice_get xs n ≡ Some x)
  get_taken [] zero n x e = absurd (some_none x (sym e))
  get_taken [] (suc i) n x e = absurd (some_none x (sym e))
  get_taken (y ∷ xs) zero n x e = absurd (some_none x (sym e))
  get_taken (y ∷ xs) (suc i) zero x e = (omega arith, e)
  get_taken (y ∷ xs) (suc i) (suc n) x e = let h = get_taken xs i n x e in (omega (arith, h.0), h.1)

  pub some_same : (x y : X) → Some x ≡ Some y → x ≡ y
  some_same x y e = cc

  from_map : {Y : Type 0} (f : X → Y) (o : Option X) (y : Y) → option_map f o ≡ Some y → (P : Type 0) → ((x : X) → o ≡ Some x → f x ≡ y → P) → P
  from_map f None y e P next = absurd (some_none y (sym e))
  from_map f (Some x) y e P next = next x refl (let g : f x ≡ y = cc in g)

-- ---- places of keys
stands : (k : Key) (ks : List Key) → place k ks < length ks → slice_get ks (place k ks) ≡ Some k
stands k [] h = absurd (omega arith)
stands k (j ∷ ks) h =
    elim (key_eq k j) as (λ b. key_eq k j ≡ b → cond b 0 (suc (place k ks)) < length (j ∷ ks) → slice_get (j ∷ ks) (cond b 0 (suc (place k ks))) ≡ Some k) [
      | true ↦ λ f _. ap Some (sym (same_key k j f))
      | false ↦ λ f lt. stands k ks (omega arith)
    ] refl h

stands_nowhere : (k : Key) (ks : List Key) → length ks ≤ place k ks → (n : ℕ) → slice_get ks n ≡ Some k → ⊥
stands_nowhere k [] h n e = some_none k (sym e)
stands_nowhere k (j ∷ ks) h n e =
    elim (key_eq k j) as (λ b. key_eq k j ≡ b → length (j ∷ ks) ≤ cond b 0 (suc (place k ks)) → ⊥) [
      | true ↦ λ f le. omega arith
      | false ↦ λ f le. by n f (λ m g. stands_nowhere k ks (omega arith) m g) e
    ] refl h
  where
    by : (n : ℕ) → key_eq k j ≡ false → ((m : ℕ) → slice_get ks m ≡ Some k → ⊥) → slice_get (j ∷ ks) n ≡ Some k → ⊥
    by zero f rest e = false≢true (sym f ∙ ap (key_eq k) (some_same j k e) ∙ key_itself k)
    by (suc n) f rest e = rest n e

-- what answers the places at which keys stand is their position
pub is_position : (k : Key) (ks : List Key) (o : Option ℕ) → ((n : ℕ) → (o ≡ Some n) ↔ (slice_get ks n ≡ Some k)) → o ≡ position (key_eq k) ks
is_position k ks o same =
    elim (ltb (place k ks) (length ks)) as (λ b. ltb (place k ks) (length ks) ≡ b → o ≡ cond b (Some (place k ks)) None) [
      | true ↦ λ f. (same (place k ks)).1 (stands k ks (let g : place k ks < length ks = grind (arith, nat_tests) in g))
      | false ↦ λ f. nowhere o (λ n e. stands_nowhere k ks (let g : length ks ≤ place k ks = grind (arith, nat_tests) in g) n ((same n).0 e))
    ] refl
    ∙ sym (in_own_words k ks)
  where
    nowhere : (o : Option ℕ) → ((n : ℕ) → o ≡ Some n → ⊥) → o ≡ None
    nowhere None h = refl
    nowhere (Some n) h = absurd (h n refl)

-- a key that passes no test stands nowhere
pub not_there : (k : Key) (ks : List Key) → list_any (key_eq k) ks ≡ false → (n : ℕ) → slice_get ks n ≡ Some k → ⊥
not_there k [] h n e = some_none k (sym e)
not_there k (j ∷ ks) h n e = by (key_eq k j) n refl h (λ g m. not_there k ks g m) e
  where
    by : (b : Bool) (n : ℕ) → key_eq k j ≡ b → (b || list_any (key_eq k) ks) ≡ false → (list_any (key_eq k) ks ≡ false → (m : ℕ) → slice_get ks m ≡ Some k → ⊥) → slice_get (j ∷ ks) n ≡ Some k → ⊥
    by true n f h rest e = true≢false h
    by false zero f h rest e = false≢true (sym f ∙ ap (key_eq k) (some_same j k e) ∙ key_itself k)
    by false (suc n) f h rest e = rest h n e

-- ---- keys that count
pub counting_put : (first : ℕ) (ks : List Key) (k : Key) → AreNumbered first Counting ks → k ≡ Int (pos (first + length ks)) → AreNumbered first Counting (ks ++ k ∷ [])
counting_put first ks k old is n q e =
    get_longer ks k n q e (q ≡ Int (pos (first + n))) (λ there. old n q there) (λ last same. same ∙ is ∙ ap (λ m. Int (pos (first + m))) (sym last))

pub counting_first : (first : ℕ) (ks : List Key) → AreNumbered first Counting ks → AreNumbered (first + 1) Counting (remove ks 0)
counting_first first ks old n q e =
    old (suc n) q (sym (moved_behind ks 0 n (omega arith)) ∙ e) ∙ ap (λ m. Int (pos m)) (let g : first + suc n ≡ first + 1 + n = omega arith in g)

pub counting_last : (first : ℕ) (ks : List Key) (i : ℕ) → i + 1 ≡ length ks → AreNumbered first Counting ks → AreNumbered first Counting (remove ks i)
counting_last first ks i last old n q e = old n q (before_last ks i n q last e).1

-- none of the first i is the one at i
pub counting_fresh : (first : ℕ) (ks : List Key) (i : ℕ) (k : Key) → AreNumbered first Counting ks → slice_get ks i ≡ Some k → (n : ℕ) → slice_get (take i ks) n ≡ Some k → ⊥
counting_fresh first ks i k old at n e =
    let h = get_taken ks i n k e in
    let same : Int (pos (first + n)) ≡ Int (pos (first + i)) = sym (old n k h.1) ∙ old i k at in
    let g : first + n ≡ first + i = cc in
    omega (arith, g, h.0)

counted_some : (k : Key) (first len n : ℕ) → counted k first len ≡ Some n → (k ≡ Int (pos (first + n))) × (n < len)
counted_some (Text b) first len n e = absurd (some_none n (sym e))
counted_some (Int (negsuc m)) first len n e = absurd (some_none n (sym e))
counted_some (Int (pos m)) first len n e =
    elim (ltb m first) as (λ b. ltb m first ≡ b → (if b then None else if ltb (m - first) len then Some (m - first) else None) ≡ Some n → (Int (pos m) ≡ Int (pos (first + n))) × (n < len)) [
      | true ↦ λ f g. absurd (some_none n (sym g))
      | false ↦ λ f. elim (ltb (m - first) len) as (λ b. ltb (m - first) len ≡ b → (if b then Some (m - first) else None) ≡ Some n → (Int (pos m) ≡ Int (pos (first + n))) × (n < len)) [
        | true ↦ λ h g.
            let same : m - first ≡ n = some_same (m - first) n g in
            let from : first ≤ m = grind (arith, nat_tests) in
            let less : m - first < len = grind (arith, nat_tests) in
            (ap (λ m. Int (pos m)) (omega (arith, same, from)), omega (arith, same, less))
        | false ↦ λ h g. absurd (some_none n (sym g))
      ] refl
    ] refl e

pub counted_places : (first : ℕ) (k : Key) (ks : List Key) → AreNumbered first Counting ks → (n : ℕ) → (counted k first (length ks) ≡ Some n) ↔ (slice_get ks n ≡ Some k)
counted_places first k ks old n = (to, from)
  where
    to : counted k first (length ks) ≡ Some n → slice_get ks n ≡ Some k
    to e =
        let h = counted_some k first (length ks) n e in
        let there = slice_get-get_or ks n k h.1 in
        there ∙ ap Some (old n (get_or ks n k) there ∙ sym h.0)

    from : slice_get ks n ≡ Some k → counted k first (length ks) ≡ Some n
    from e =
        let less = slice_get_within ks n k e in
        let past : ltb (first + n) first ≡ false = grind (arith, nat_tests) in
        let back : first + n - first ≡ n = omega arith in
        let within : ltb n (length ks) ≡ true = grind (arith, nat_tests) in
        ap (λ j. counted j first (length ks)) (old n k e)
        ∙ ap (λ b. if b then None else if ltb (first + n - first) (length ks) then Some (first + n - first) else None) past
        ∙ ap (λ m. if ltb m (length ks) then Some m else None) back
        ∙ ap (λ b. if b then Some n else None) within

-- ---- keys in order
pub sorted_none : (first : ℕ) (m : BTreeMap Key ℕ) → m.entries ≡ [] → IsNumbered first m []
sorted_none first m none = record {
  has = λ i k e. absurd (some_none k (sym e));
  only = λ n k e. absurd (some_none n (sym e ∙ ap (lookup k) none));
}

pub sorted_same : (first : ℕ) (m m' : BTreeMap Key ℕ) (ks : List Key) → m'.entries ≡ m.entries → IsNumbered first m ks → IsNumbered first m' ks
sorted_same first m m' ks same old = record {
  has = λ i k e. ap (lookup k) same ∙ old.has i k e;
  only = λ n k e. old.only n k (ap (lookup k) (sym same) ∙ e);
}

-- a key that has a number is found at the place that this says
pub sorted_found : (first : ℕ) (m : BTreeMap Key ℕ) (ks : List Key) (k : Key) (number : ℕ) (o : Option ℕ) → IsNumbered first m ks → lookup k m.entries ≡ Some number → SomeIff o (first ≤ number) (number - first) → o ≡ position (key_eq k) ks
sorted_found first m ks k number None old is h =
    let at = old.only number k is in
    absurd (h (omega (arith, at.1.0)))
sorted_found first m ks k number (Some x) old is h = is_position k ks (Some x) (λ n. (to n, from n))
  where
    to : (n : ℕ) → Some x ≡ Some n → slice_get ks n ≡ Some k
    to n e =
        let at = old.only number k is in
        let same : at.0 ≡ n = omega (arith, at.1.0, h.1, some_same x n e) in
        ap (slice_get ks) (sym same) ∙ at.1.1

    from : (n : ℕ) → slice_get ks n ≡ Some k → Some x ≡ Some n
    from n e =
        let kept : number ≡ first + n = some_same number (first + n) (sym is ∙ old.has n k e) in
        ap Some (omega (arith, kept, h.1))

pub sorted_missed : (first : ℕ) (m : BTreeMap Key ℕ) (ks : List Key) (k : Key) → IsNumbered first m ks → lookup k m.entries ≡ None → None ≡ position (key_eq k) ks
sorted_missed first m ks k old none = is_position k ks None (λ n. ((λ e. absurd (some_none n (sym e))), (λ e. absurd (some_none (first + n) (sym (old.has n k e) ∙ none)))))

module _ (first : ℕ) (m m' : BTreeMap Key ℕ) (ks : List Key) (k : Key) (old : IsNumbered first m ks) where
  -- two places have two keys
  other_place : (i n : ℕ) (q : Key) → slice_get ks i ≡ Some k → slice_get ks n ≡ Some q → n ≢ i → key_eq k q ≡ false
  other_place i n q at there other =
      false_from_ne_true (key_eq k q) (λ t.
      let same : first + n ≡ first + i = some_same (first + n) (first + i) (sym (old.has n q there) ∙ ap (λ j. lookup j m.entries) (sym (same_key k q t)) ∙ old.has i k at) in
      other (omega (arith, same)))

  -- and two keys two places
  not_here : (i j : ℕ) (q : Key) → slice_get ks i ≡ Some k → slice_get ks j ≡ Some q → key_eq k q ≡ false → j ≢ i
  not_here i j q at there f same = false≢true (sym f ∙ ap (key_eq k) (some_same q k (sym there ∙ ap (slice_get ks) same ∙ at)) ∙ key_itself k)

  pub sorted_put : ((n : ℕ) → slice_get ks n ≡ Some k → ⊥) → ((q : Key) → lookup q m'.entries ≡ (if key_eq k q then Some (first + length ks) else lookup q m.entries)) → IsNumbered first m' (ks ++ k ∷ [])
  sorted_put new is = record { has = has; only = only }
    where
      has : (n : ℕ) (q : Key) → slice_get (ks ++ k ∷ []) n ≡ Some q → lookup q m'.entries ≡ Some (first + n)
      has n q e =
          get_longer ks k n q e (lookup q m'.entries ≡ Some (first + n))
          (λ there.
          let other = false_from_ne_true (key_eq k q) (λ t. new n (there ∙ ap Some (sym (same_key k q t)))) in
          is q ∙ ap (λ b. if b then Some (first + length ks) else lookup q m.entries) other ∙ old.has n q there)
          (λ last same. is q ∙ ap (λ b. if b then Some (first + length ks) else lookup q m.entries) (ap (key_eq k) same ∙ key_itself k) ∙ ap (λ n. Some (first + n)) (sym last))

      only : (n : ℕ) (q : Key) → lookup q m'.entries ≡ Some n → (i : ℕ) × ((n ≡ first + i) × (slice_get (ks ++ k ∷ []) i ≡ Some q))
      only n q e =
          elim (key_eq k q) as (λ b. key_eq k q ≡ b → (if b then Some (first + length ks) else lookup q m.entries) ≡ Some n → (i : ℕ) × ((n ≡ first + i) × (slice_get (ks ++ k ∷ []) i ≡ Some q))) [
            | true ↦ λ f g. (length ks, (sym (some_same (first + length ks) n g), get_last ks k ∙ ap Some (same_key k q f)))
            | false ↦ λ f g. let at = old.only n q g in (at.0, (at.1.0, get_within ks (k ∷ []) at.0 q at.1.1))
          ] refl (sym (is q) ∙ e)

  -- taken out at the front
  pub sorted_first : slice_get ks 0 ≡ Some k → ((q : Key) → lookup q m'.entries ≡ (if key_eq k q then None else lookup q m.entries)) → IsNumbered (first + 1) m' (remove ks 0)
  sorted_first at is = record { has = has; only = only }
    where
      has : (n : ℕ) (q : Key) → slice_get (remove ks 0) n ≡ Some q → lookup q m'.entries ≡ Some (first + 1 + n)
      has n q e =
          let there : slice_get ks (suc n) ≡ Some q = sym (moved_behind ks 0 n (omega arith)) ∙ e in
          let other = other_place 0 (suc n) q at there (λ same. omega (arith, same)) in
          let number : first + suc n ≡ first + 1 + n = omega arith in
          is q ∙ ap (λ b. if b then None else lookup q m.entries) other ∙ old.has (suc n) q there ∙ ap Some number

      behind : (n j : ℕ) (q : Key) → n ≡ first + j → slice_get ks j ≡ Some q → j ≢ 0 → (i : ℕ) × ((n ≡ first + 1 + i) × (slice_get (remove ks 0) i ≡ Some q))
      behind n zero q e there other = absurd (other refl)
      behind n (suc j) q e there other = (j, (omega (arith, e), moved_behind ks 0 j (omega arith) ∙ there))

      only : (n : ℕ) (q : Key) → lookup q m'.entries ≡ Some n → (i : ℕ) × ((n ≡ first + 1 + i) × (slice_get (remove ks 0) i ≡ Some q))
      only n q e =
          elim (key_eq k q) as (λ b. key_eq k q ≡ b → (if b then None else lookup q m.entries) ≡ Some n → (i : ℕ) × ((n ≡ first + 1 + i) × (slice_get (remove ks 0) i ≡ Some q))) [
            | true ↦ λ f g. absurd (some_none n (sym g))
            | false ↦ λ f g. let there = old.only n q g in behind n there.0 q there.1.0 there.1.1 (not_here 0 there.0 q at there.1.1 f)
          ] refl (sym (is q) ∙ e)

  -- taken out at the back
  pub sorted_last : (i : ℕ) → i + 1 ≡ length ks → slice_get ks i ≡ Some k → ((q : Key) → lookup q m'.entries ≡ (if key_eq k q then None else lookup q m.entries)) → IsNumbered first m' (remove ks i)
  sorted_last i last at is = record { has = has; only = only }
    where
      has : (n : ℕ) (q : Key) → slice_get (remove ks i) n ≡ Some q → lookup q m'.entries ≡ Some (first + n)
      has n q e =
          let before = before_last ks i n q last e in
          let other = other_place i n q at before.1 (λ same. omega (arith, same, before.0)) in
          is q ∙ ap (λ b. if b then None else lookup q m.entries) other ∙ old.has n q before.1

      only : (n : ℕ) (q : Key) → lookup q m'.entries ≡ Some n → (j : ℕ) × ((n ≡ first + j) × (slice_get (remove ks i) j ≡ Some q))
      only n q e =
          elim (key_eq k q) as (λ b. key_eq k q ≡ b → (if b then None else lookup q m.entries) ≡ Some n → (j : ℕ) × ((n ≡ first + j) × (slice_get (remove ks i) j ≡ Some q))) [
            | true ↦ λ f g. absurd (some_none n (sym g))
            | false ↦ λ f g.
                let there = old.only n q g in
                let less : there.0 < i = below i there.0 (not_here i there.0 q at there.1.1 f) (omega (arith, last, slice_get_within ks there.0 q there.1.1)) in
                (there.0, (there.1.0, still_before ks i there.0 less ∙ there.1.1))
          ] refl (sym (is q) ∙ e)

  -- taken out anywhere, with those behind it lower by one
  pub sorted_taken : (i : ℕ) → slice_get ks i ≡ Some k → ((q : Key) → lookup q m'.entries ≡ (if key_eq k q then None else option_map (closed_up (first + i)) (lookup q m.entries))) → IsNumbered first m' (remove ks i)
  sorted_taken i at is = record { has = has; only = only }
    where
      has : (n : ℕ) (q : Key) → slice_get (remove ks i) n ≡ Some q → lookup q m'.entries ≡ Some (first + n)
      has n q e =
          let there = get_opened ks i n q e in
          let other = other_place i (opened_up i n) q at there (λ same. opened_other i n (sym same)) in
          is q ∙ ap (λ b. if b then None else option_map (closed_up (first + i)) (lookup q m.entries)) other
          ∙ ap (option_map (closed_up (first + i))) (old.has (opened_up i n) q there)
          ∙ ap Some (shifted first i (opened_up i n) ∙ ap (λ j. first + j) (closed_opened i n))

      only : (n : ℕ) (q : Key) → lookup q m'.entries ≡ Some n → (j : ℕ) × ((n ≡ first + j) × (slice_get (remove ks i) j ≡ Some q))
      only n q e =
          elim (key_eq k q) as (λ b. key_eq k q ≡ b → (if b then None else option_map (closed_up (first + i)) (lookup q m.entries)) ≡ Some n → (j : ℕ) × ((n ≡ first + j) × (slice_get (remove ks i) j ≡ Some q))) [
            | true ↦ λ f g. absurd (some_none n (sym g))
            | false ↦ λ f g. from_map (closed_up (first + i)) (lookup q m.entries) n g ((j : ℕ) × ((n ≡ first + j) × (slice_get (remove ks i) j ≡ Some q))) (λ p is_p closed.
                let there = old.only p q is_p in
                let j = there.0 in
                (closed_up i j, (sym closed ∙ ap (closed_up (first + i)) there.1.0 ∙ shifted first i j, get_closed ks i j q (not_here i j q at there.1.1 f) there.1.1)))
          ] refl (sym (is q) ∙ e)

-- ---- the order of keys
pub at_key : (k q : Key) → is_at (cmp-value.it k) q ≡ key_eq k q
at_key (Int m) (Int n) = refl
at_key (Text a) (Text b) = sym (texts_ties a b)
at_key (Int m) (Text b) = refl
at_key (Text a) (Int n) = refl

-- a look-up in the order of keys is one by their equality
pub found_by_order : (k : Key) (es : List (Key × ℕ)) → std.lookup (is_at (cmp-value.it k)) es ≡ lookup k es
found_by_order k [] = refl
found_by_order k (e ∷ es) = λ i. cond (at_key k e.0 i) (Some e.1) (found_by_order k es i)

pub lookup_map : {X Y : Type 0} (q : Key) (f : X → Y) (es : List (Key × X)) → lookup q (map (λ e. (e.0, f e.1)) es) ≡ option_map f (lookup q es)
lookup_map q f [] = refl
lookup_map q f (e ∷ es) =
    elim (key_eq q e.0) as (λ b. (if b then Some (f e.1) else lookup q (map (λ e. (e.0, f e.1)) es)) ≡ option_map f (if b then Some e.1 else lookup q es)) [ true ↦ refl | false ↦ lookup_map q f es ]

pub map_unless : {X Y : Type 0} (b : Bool) (f : X → Y) (o : Option X) → option_map f (cond b None o) ≡ cond b None (option_map f o)
map_unless true f o = refl
map_unless false f o = refl
