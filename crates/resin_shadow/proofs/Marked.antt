-- What the runs, the policies and the sets of marks are.
use Rattle.std.proofs.Common.{◌≡◌, ◌≢◌, ◌⊎◌, inl, inr, ℕ, suc, ◌+◌, ◌<◌, ◌≤◌, Bool, true, false, cond, List, [], ◌∷◌, ◌++◌, length, slice_get, Some, refl, sym, ap, subst, ◌∙◌, arith}
use Rattle.std.specs.Prelude.{not, ◌||◌, ◌==◌, replicate, fold}
use Rattle.std.specs.List.{filter, flat_map, list_any, position_or_len}
use Rattle.std.specs.Str.{bytes_eq}
use Rattle.std.proofs.lemmas.Bool.{true≢false}
use Rattle.std.proofs.lemmas.Slice.Eq.{bytes_eq-Decides}
use Rattle.indexmap.specs.IndexSet.{insert_key}
use Rattle.resin_lstr.specs.Texts.{distinct}
use Rattle.resin_frozen.specs.Policies.{IsPolicyText}
use Rattle.resin_shadow.specs.Marks.{TextSet, IsTextSet, same_set, Marks, MarkRun, Each, AreMarks, with_byte, runs_of, spelled, policies, sets}
use Rattle.resin_shadow.specs.Shadows.{place}
use Rattle.resin_shadow.proofs.Maximal.{same_decides}
use Rattle.resin_shadow.proofs.Kept.{each-append}
use Rattle.resin_shadow.proofs.First_met.{met_set, Within, keeps, has_it, all_in, sets_are_met, policies_are_met, some_is_none}
use Rattle.resin_shadow.proofs.Places.{Apart, AreIn}
use Rattle.resin_shadow.proofs.Fronts.{IsWithin, HasPlace}

-- ---- runs
spelled_with : (s : TextSet) (rs : List MarkRun) → spelled (with_byte s rs) ≡ s ∷ spelled rs
spelled_with s [] = refl
spelled_with s (r ∷ rs) = by (same_set s r.1) refl
  where
    by : (b : Bool) → same_set s r.1 ≡ b → spelled (cond b ((r.0 + 1, r.1) ∷ rs) ((1, s) ∷ r ∷ rs)) ≡ s ∷ (replicate r.0 r.1 ++ spelled rs)
    by true e =
        ap (λ n. replicate n r.1 ++ spelled rs) (let q : r.0 + 1 ≡ suc r.0 = omega arith in q)
        ∙ ap (λ u. u ∷ (replicate r.0 r.1 ++ spelled rs)) (sym ((same_decides s r.1).0 e))
    by false e = refl

pub spelled_runs : (v : Marks) → spelled (runs_of v) ≡ v
spelled_runs [] = refl
spelled_runs (s ∷ v) = spelled_with s (runs_of v) ∙ ap (λ w. s ∷ w) (spelled_runs v)

some_with : (s : TextSet) (rs : List MarkRun) → Each (λ r. 0 < r.0) rs → Each (λ r. 0 < r.0) (with_byte s rs)
some_with s [] h = (omega arith, tt)
some_with s (r ∷ rs) h = by (same_set s r.1)
  where
    by : (b : Bool) → Each (λ r. 0 < r.0) (cond b ((r.0 + 1, r.1) ∷ rs) ((1, s) ∷ r ∷ rs))
    by true = (omega arith, h.1)
    by false = (omega arith, h)

pub some_runs : (v : Marks) → Each (λ r. 0 < r.0) (runs_of v)
some_runs [] = tt
some_runs (s ∷ v) = some_with s (runs_of v) (some_runs v)

holds_with : (P : TextSet → Type 0) (s : TextSet) (rs : List MarkRun) → P s → Each (λ r. P r.1) rs → Each (λ r. P r.1) (with_byte s rs)
holds_with P s [] p h = (p, tt)
holds_with P s (r ∷ rs) p h = by (same_set s r.1)
  where
    by : (b : Bool) → Each (λ r. P r.1) (cond b ((r.0 + 1, r.1) ∷ rs) ((1, s) ∷ r ∷ rs))
    by true = (h.0, h.1)
    by false = (p, h)

pub runs_hold : (P : TextSet → Type 0) (v : Marks) → Each P v → Each (λ r. P r.1) (runs_of v)
runs_hold P [] h = tt
runs_hold P (s ∷ v) h = holds_with P s (runs_of v) h.0 (runs_hold P v h.1)

count_with : (s : TextSet) (rs : List MarkRun) → length (with_byte s rs) ≤ length rs + 1
count_with s [] = omega arith
count_with s (r ∷ rs) = by (same_set s r.1)
  where
    by : (b : Bool) → length (cond b ((r.0 + 1, r.1) ∷ rs) ((1, s) ∷ r ∷ rs)) ≤ length (r ∷ rs) + 1
    by true = omega arith
    by false = omega arith

pub count_of_runs : (v : Marks) → length (runs_of v) ≤ length v
count_of_runs [] = omega arith
count_of_runs (s ∷ v) = let a = count_with s (runs_of v) in let b = count_of_runs v in omega (arith, a, b)

-- ---- lists without repeats
each_filter : {X : Type 0} (P : X → Type 0) (p : X → Bool) (xs : List X) → Each P xs → Each P (filter p xs)
each_filter P p [] h = tt
each_filter P p (x ∷ xs) h = by (p x) (each_filter P p xs h.1)
  where
    by : (b : Bool) → Each P (filter p xs) → Each P (cond b (x ∷ filter p xs) (filter p xs))
    by true k = (h.0, k)
    by false k = k

each_distinct : {X : Type 0} (P : X → Type 0) (eq : X → X → Bool) (xs : List X) → Each P xs → Each P (distinct eq xs)
each_distinct P eq [] h = tt
each_distinct P eq (x ∷ xs) h = (h.0, each_filter P (λ y. not (eq x y)) (distinct eq xs) (each_distinct P eq xs h.1))

none_left : (x : List ℕ) (p : List ℕ → Bool) (xs : List (List ℕ)) → list_any (bytes_eq x) xs ≡ false → list_any (bytes_eq x) (filter p xs) ≡ false
none_left x p [] h = refl
none_left x p (y ∷ xs) h = by (bytes_eq x y) refl (p y) h (λ h. none_left x p xs h)
  where
    by : (b : Bool) → bytes_eq x y ≡ b → (c : Bool) → (b || list_any (bytes_eq x) xs) ≡ false → (list_any (bytes_eq x) xs ≡ false → list_any (bytes_eq x) (filter p xs) ≡ false) → list_any (bytes_eq x) (cond c (y ∷ filter p xs) (filter p xs)) ≡ false
    by true e c h go = absurd (true≢false h)
    by false e true h go = ap (λ b. b || list_any (bytes_eq x) (filter p xs)) e ∙ go h
    by false e false h go = go h

none_same : (x : List ℕ) (xs : List (List ℕ)) → list_any (bytes_eq x) (filter (λ y. not (bytes_eq x y)) xs) ≡ false
none_same x [] = refl
none_same x (y ∷ xs) = by (bytes_eq x y) refl (none_same x xs)
  where
    by : (b : Bool) → bytes_eq x y ≡ b → list_any (bytes_eq x) (filter (λ y. not (bytes_eq x y)) xs) ≡ false → list_any (bytes_eq x) (cond (not b) (y ∷ filter (λ y. not (bytes_eq x y)) xs) (filter (λ y. not (bytes_eq x y)) xs)) ≡ false
    by true e k = k
    by false e k = ap (λ b. b || list_any (bytes_eq x) (filter (λ y. not (bytes_eq x y)) xs)) e ∙ k

apart_filter : (p : List ℕ → Bool) (xs : List (List ℕ)) → Apart xs → Apart (filter p xs)
apart_filter p [] h = tt
apart_filter p (x ∷ xs) h = by (p x) (apart_filter p xs h.1)
  where
    by : (b : Bool) → Apart (filter p xs) → Apart (cond b (x ∷ filter p xs) (filter p xs))
    by true k = (none_left x p xs h.0, k)
    by false k = k

apart_distinct : (xs : List (List ℕ)) → Apart (distinct bytes_eq xs)
apart_distinct [] = tt
apart_distinct (x ∷ xs) = (none_same x (distinct bytes_eq xs), apart_filter (λ y. not (bytes_eq x y)) (distinct bytes_eq xs) (apart_distinct xs))

pub policies_apart : (v : Marks) → Apart (policies v)
policies_apart v = apart_distinct (flat_map (λ s. s) v)

each_flat : (P : List ℕ → Type 0) (v : Marks) → Each (Each P) v → Each P (flat_map (λ s. s) v)
each_flat P [] h = tt
each_flat P (s ∷ v) h = each-append P s (flat_map (λ s. s) v) h.0 (each_flat P v h.1)

pub policies_are : (v : Marks) → AreMarks v → Each IsPolicyText (policies v)
policies_are v h = each_distinct IsPolicyText bytes_eq (flat_map (λ s. s) v) (each_flat IsPolicyText v h.policies)

-- ---- the sets of marks are made of their policies
in_within : (T : List (List ℕ)) (s : TextSet) → Within bytes_eq bytes_eq-Decides s T → AreIn T s
in_within T [] h = tt
in_within T (t ∷ s) h = (h.0, in_within T s h.1)

each_both : (P Q R : TextSet → Type 0) (v : Marks) → ((s : TextSet) → P s → Q s → R s) → Each P v → Each Q v → Each R v
each_both P Q R [] f h k = tt
each_both P Q R (s ∷ v) f h k = (f s h.0 k.0, each_both P Q R v f h.1 k.1)

pub are_within : (v : Marks) → Each (AreIn (policies v)) v
are_within v =
    subst (λ T. Each (AreIn T) v) (sym (policies_are_met v))
    (each_both (λ s. Within bytes_eq bytes_eq-Decides s (fold (insert_key bytes_eq) [] (flat_map (λ t. t) v))) (λ s. Within bytes_eq bytes_eq-Decides s (fold (insert_key bytes_eq) [] (flat_map (λ t. t) v))) (AreIn (fold (insert_key bytes_eq) [] (flat_map (λ t. t) v))) v (λ s p q. in_within (fold (insert_key bytes_eq) [] (flat_map (λ t. t) v)) s p) all all)
  where
    all : Each (λ s. Within bytes_eq bytes_eq-Decides s (fold (insert_key bytes_eq) [] (flat_map (λ t. t) v))) v
    all = all_in bytes_eq bytes_eq-Decides v []

pub sets_within : (v : Marks) → Each IsTextSet v → Each (IsWithin (policies v)) v
sets_within v h = each_both IsTextSet (AreIn (policies v)) (IsWithin (policies v)) v (λ s p q. record { is_set = p; there = q }) h (are_within v)

is_some : (s : TextSet) → (length s == 0) ≡ false → s ≢ []
is_some [] h e = true≢false h
is_some (x ∷ s) h e = let d : x ∷ s ≡ [] = e in cc

some_filtered : (v : Marks) → Each (λ s. s ≢ []) (filter (λ s. not (length s == 0)) v)
some_filtered [] = tt
some_filtered (s ∷ v) = by (length s == 0) refl (some_filtered v)
  where
    by : (b : Bool) → (length s == 0) ≡ b → Each (λ s. s ≢ []) (filter (λ s. not (length s == 0)) v) → Each (λ s. s ≢ []) (cond (not b) (s ∷ filter (λ s. not (length s == 0)) v) (filter (λ s. not (length s == 0)) v))
    by true e k = k
    by false e k = (is_some s e, k)

pub sets_good : (v : Marks) → Each IsTextSet v → Each (λ s. IsWithin (policies v) s × (s ≢ [])) (sets v)
sets_good v h =
    each_both (IsWithin (policies v)) (λ s. s ≢ []) (λ s. IsWithin (policies v) s × (s ≢ [])) (sets v) (λ s p q. (p, q))
    (each_distinct (IsWithin (policies v)) same_set (filter (λ s. not (length s == 0)) v) (each_filter (IsWithin (policies v)) (λ s. not (length s == 0)) v (sets_within v h)))
    (each_distinct (λ s. s ≢ []) same_set (filter (λ s. not (length s == 0)) v) (some_filtered v))

-- ---- each set that has a policy has a place among the sets
keeps_met : (q : TextSet) (v : Marks) (D : List TextSet) → list_any (same_set q) D ≡ true → list_any (same_set q) (fold met_set D v) ≡ true
keeps_met q [] D h = h
keeps_met q (s ∷ v) D h = keeps_met q v (met_set D s) (by (length s == 0))
  where
    by : (b : Bool) → list_any (same_set q) (cond b D (insert_key same_set D s)) ≡ true
    by true = h
    by false = keeps same_set same_decides q s D h

abbrev IsMet : List TextSet → TextSet → Type 0
IsMet S s = (s ≡ []) ⊎ ((s ≢ []) × (list_any (same_set s) S ≡ true))

is_met : (v : Marks) (D : List TextSet) → Each (IsMet (fold met_set D v)) v
is_met [] D = tt
is_met (s ∷ v) D = (here s, is_met v (met_set D s))
  where
    here : (s : TextSet) → IsMet (fold met_set (met_set D s) v) s
    here [] = inl refl
    here (x ∷ s) =
        inr (
          is_some (x ∷ s) (some_is_none x s),
          keeps_met (x ∷ s) v (met_set D (x ∷ s)) (subst (λ b. list_any (same_set (x ∷ s)) (cond b D (insert_key same_set D (x ∷ s))) ≡ true) (sym (some_is_none x s)) (has_it same_set same_decides (x ∷ s) D)),
        )

placed : (s : TextSet) (S : List TextSet) → list_any (same_set s) S ≡ true → slice_get S (place same_set s S) ≡ Some s
placed s [] h = absurd (true≢false (sym h))
placed s (x ∷ S) h = by (same_set s x) refl h (λ h. placed s S h)
  where
    by : (b : Bool) → same_set s x ≡ b → (b || list_any (same_set s) S) ≡ true → (list_any (same_set s) S ≡ true → slice_get S (place same_set s S) ≡ Some s) → slice_get (x ∷ S) (position_or_len (same_set s) (x ∷ S)) ≡ Some s
    by true e h go = ap (λ b. slice_get (x ∷ S) (cond (not b) (1 + position_or_len (same_set s) S) 0)) e ∙ ap Some (sym ((same_decides s x).0 e))
    by false e h go =
        ap (λ b. slice_get (x ∷ S) (cond (not b) (1 + position_or_len (same_set s) S) 0)) e
        ∙ ap (slice_get (x ∷ S)) (let q : 1 + position_or_len (same_set s) S ≡ suc (position_or_len (same_set s) S) = omega arith in q)
        ∙ go h

has_place : (S : List TextSet) (s : TextSet) → IsMet S s → HasPlace S s
has_place S s (inl e) = inl e
has_place S s (inr e) = inr (e.0, placed s S e.1)

pub sets_placed : (v : Marks) → Each (HasPlace (sets v)) v
sets_placed v =
    each_both (IsMet (sets v)) (IsMet (sets v)) (HasPlace (sets v)) v (λ s p q. has_place (sets v) s p) all all
  where
    all : Each (IsMet (sets v)) v
    all = subst (λ S. Each (IsMet S) v) (sym (sets_are_met v)) (is_met v [])

-- ---- marks without policies
pub none_within : (v : Marks) (T : List (List ℕ)) → T ≡ [] → Each (AreIn T) v → v ≡ replicate (length v) []
none_within [] T e h = refl
none_within (s ∷ v) T e h = ap (λ w. s ∷ w) (none_within v T e h.1) ∙ ap (λ u. u ∷ replicate (length v) []) (empty s (subst (λ T. AreIn T s) e h.0))
  where
    empty : (s : TextSet) → AreIn [] s → s ≡ []
    empty [] h = refl
    empty (t ∷ s) h = absurd (true≢false (sym h.0))

pub no_policies : (v : Marks) → (length (policies v) == 0) ≡ true → v ≡ replicate (length v) []
no_policies v h = none_within v (policies v) (nothing (policies v) h) (are_within v)
  where
    nothing : (T : List (List ℕ)) → (length T == 0) ≡ true → T ≡ []
    nothing [] h = refl
    nothing (t ∷ T) h = absurd (true≢false (sym h ∙ some_is_none t T))
