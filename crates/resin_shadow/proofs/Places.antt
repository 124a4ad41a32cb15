-- Places of the texts of a set in a table, and the set of the texts at places.
use Rattle.std.proofs.Common.{◌≡◌, ℕ, ◌+◌, ◌<◌, Bool, true, false, cond, List, [], ◌∷◌, ◌++◌, map, refl, sym, ap, subst, ◌∙◌, arith}
use Rattle.std.specs.Prelude.{not, ◌||◌, fold}
use Rattle.std.specs.List.{filter, list_any, position_or_len, AllByRecursion}
use Rattle.std.specs.List.Sorted.{IsStrictlySortedBy}
use Rattle.std.specs.Str.{bytes_eq}
use Rattle.std.specs.BTreeSet.{insert_key}
use Rattle.std.specs.Ordering.{nat_cmp, match_ordering, ordering_reverse}
use Rattle.std.specs.declared.cmp.Ordering.{Ordering}
use Rattle.std.specs.declared.cmp.Ordering.TheVariants.{Less, Equal, Greater}
use Rattle.std.specs.Cmp.{nat_cmp_is}
use Rattle.std.specs.Cmp.Lexicographic.{slice_cmp}
use Rattle.std.proofs.lemmas.Cmp.{nat_list_cmp_total}
use Rattle.std.proofs.lemmas.Bool.{true≢false, or_left, or_right}
use Rattle.std.proofs.lemmas.Slice.Eq.{bytes_eq-Decides}
use Rattle.resin_shadow.specs.Marks.{TextSet, IsTextSet}
use Rattle.resin_shadow.specs.Shadows.{place, places_from, places}
use Rattle.resin_shadow.specs.Runs.{set_of}

-- an item that is there, or not, behind others
any-append : (x : List ℕ) (s : TextSet) (t : List ℕ) → list_any (bytes_eq x) (s ++ t ∷ []) ≡ (list_any (bytes_eq x) s || bytes_eq x t)
any-append x [] t = by (bytes_eq x t)
  where
    by : (b : Bool) → (b || false) ≡ (false || b)
    by true = refl
    by false = refl
any-append x (y ∷ s) t = by (bytes_eq x y) (any-append x s t)
  where
    by : (b : Bool) → list_any (bytes_eq x) (s ++ t ∷ []) ≡ (list_any (bytes_eq x) s || bytes_eq x t) → (b || list_any (bytes_eq x) (s ++ t ∷ [])) ≡ ((b || list_any (bytes_eq x) s) || bytes_eq x t)
    by true e = refl
    by false e = e

or_false : (b : Bool) → (b || false) ≡ b
or_false true = refl
or_false false = refl

or_true : (b : Bool) → (b || true) ≡ true
or_true true = refl
or_true false = refl

-- the texts of a table are each there once
abbrev pub Apart : List (List ℕ) → Type 0
Apart [] = Unit {0}
Apart (x ∷ xs) = (list_any (bytes_eq x) xs ≡ false) × Apart xs

same_turned : (x y : List ℕ) → bytes_eq x y ≡ false → bytes_eq y x ≡ false
same_turned x y h = by (bytes_eq y x) refl
  where
    by : (b : Bool) → bytes_eq y x ≡ b → b ≡ false
    by true e = absurd (true≢false (sym ((bytes_eq-Decides x y).1 (sym ((bytes_eq-Decides y x).0 e))) ∙ h))
    by false e = refl

-- the same text
same_any : (x y : List ℕ) (s : TextSet) → x ≡ y → list_any (bytes_eq x) s ≡ list_any (bytes_eq y) s
same_any x y s e = ap (λ z. list_any (bytes_eq z) s) e

-- ---- the places of one more text
-- a text that isn't in the table adds no place
no_place : (f : ℕ) (T : List (List ℕ)) (pre : TextSet) (t : List ℕ) → list_any (bytes_eq t) T ≡ false → places_from f T (pre ++ t ∷ []) ≡ places_from f T pre
no_place f [] pre t h = refl
no_place f (x ∷ T) pre t h =
    let differs : bytes_eq x t ≡ false = same_turned t x (left (bytes_eq t x) (list_any (bytes_eq t) T) h) in
    ap (λ b. cond b (f ∷ places_from (f + 1) T (pre ++ t ∷ [])) (places_from (f + 1) T (pre ++ t ∷ [])))
    (any-append x pre t ∙ ap (λ b. list_any (bytes_eq x) pre || b) differs ∙ or_false (list_any (bytes_eq x) pre))
    ∙ ap (λ ps. cond (list_any (bytes_eq x) pre) (f ∷ ps) ps) (no_place (f + 1) T pre t (right (bytes_eq t x) (list_any (bytes_eq t) T) h))
  where
    left : (a b : Bool) → (a || b) ≡ false → a ≡ false
    left true b h = h
    left false b h = refl

    right : (a b : Bool) → (a || b) ≡ false → b ≡ false
    right true b h = absurd (true≢false h)
    right false b h = h

-- the first of a list of places is above this one
abbrev IsAbove : ℕ → List ℕ → Type 0
IsAbove n [] = Unit {0}
IsAbove n (p ∷ ps) = n < p

above : (n f : ℕ) (T : List (List ℕ)) (s : TextSet) → n < f → IsAbove n (places_from f T s)
above n f [] s h = tt
above n f (x ∷ T) s h = by (list_any (bytes_eq x) s) (above n (f + 1) T s (omega arith))
  where
    by : (b : Bool) → IsAbove n (places_from (f + 1) T s) → IsAbove n (cond b (f ∷ places_from (f + 1) T s) (places_from (f + 1) T s))
    by true k = h
    by false k = k

less : (a b : ℕ) → a < b → nat_cmp a b ≡ Less
less a b h = sym (nat_cmp_is a b Less h)

same : (a b : ℕ) → a ≡ b → nat_cmp a b ≡ Equal
same a b h = sym (nat_cmp_is a b Equal h)

greater : (a b : ℕ) → b < a → nat_cmp a b ≡ Greater
greater a b h = sym (nat_cmp_is a b Greater h)

put_first : (n : ℕ) (ps : List ℕ) → IsAbove n ps → insert_key nat_cmp ps n ≡ n ∷ ps
put_first n [] h = refl
put_first n (p ∷ ps) h = ap (λ o. match_ordering o (n ∷ p ∷ ps) (p ∷ ps) (p ∷ insert_key nat_cmp ps n)) (less n p h)

put_same : (n m : ℕ) (ps : List ℕ) → m ≡ n → insert_key nat_cmp (n ∷ ps) m ≡ n ∷ ps
put_same n m ps h = ap (λ o. match_ordering o (m ∷ n ∷ ps) (n ∷ ps) (n ∷ insert_key nat_cmp ps m)) (same m n h)

put_later : (n m : ℕ) (ps : List ℕ) → n < m → insert_key nat_cmp (n ∷ ps) m ≡ n ∷ insert_key nat_cmp ps m
put_later n m ps h = ap (λ o. match_ordering o (m ∷ n ∷ ps) (n ∷ ps) (n ∷ insert_key nat_cmp ps m)) (greater m n h)

one_place : (f : ℕ) (T : List (List ℕ)) (pre : TextSet) (t : List ℕ) → Apart T → list_any (bytes_eq t) T ≡ true
    → places_from f T (pre ++ t ∷ []) ≡ insert_key nat_cmp (places_from f T pre) (f + place bytes_eq t T)
one_place f [] pre t a h = absurd (true≢false (sym h))
one_place f (x ∷ T) pre t a h = by (bytes_eq t x) refl h (λ m. one_place (f + 1) T pre t a.1 m)
  where
    by_pre : (b : Bool) → f ∷ (places_from (f + 1) T pre) ≡ insert_key nat_cmp (cond b (f ∷ (places_from (f + 1) T pre)) (places_from (f + 1) T pre)) (f + 0)
    by_pre true = sym (put_same f (f + 0) (places_from (f + 1) T pre) (omega arith))
    by_pre false = sym (ap (insert_key nat_cmp (places_from (f + 1) T pre)) (let e : f + 0 ≡ f = omega arith in e) ∙ put_first f (places_from (f + 1) T pre) (above f (f + 1) T pre (omega arith)))

    later : (b : Bool) → (places_from (f + 1) T (pre ++ t ∷ [])) ≡ insert_key nat_cmp (places_from (f + 1) T pre) (f + (1 + place bytes_eq t T)) → cond b (f ∷ (places_from (f + 1) T (pre ++ t ∷ []))) (places_from (f + 1) T (pre ++ t ∷ [])) ≡ insert_key nat_cmp (cond b (f ∷ (places_from (f + 1) T pre)) (places_from (f + 1) T pre)) (f + (1 + place bytes_eq t T))
    later true e = ap (λ ps. f ∷ ps) e ∙ sym (put_later f (f + (1 + place bytes_eq t T)) (places_from (f + 1) T pre) (omega arith))
    later false e = e

    by : (b : Bool) → bytes_eq t x ≡ b → (b || list_any (bytes_eq t) T) ≡ true
        → (list_any (bytes_eq t) T ≡ true → places_from (f + 1) T (pre ++ t ∷ []) ≡ insert_key nat_cmp (places_from (f + 1) T pre) ((f + 1) + place bytes_eq t T))
        → cond (list_any (bytes_eq x) (pre ++ t ∷ [])) (f ∷ (places_from (f + 1) T (pre ++ t ∷ []))) (places_from (f + 1) T (pre ++ t ∷ [])) ≡ insert_key nat_cmp (cond (list_any (bytes_eq x) pre) (f ∷ (places_from (f + 1) T pre)) (places_from (f + 1) T pre)) (f + position_or_len (bytes_eq t) (x ∷ T))
    by true e m go =
        let is : t ≡ x = (bytes_eq-Decides t x).0 e in
        let itself : bytes_eq x t ≡ true = (bytes_eq-Decides x t).1 (sym is) in
        ap (λ b. cond b (f ∷ (places_from (f + 1) T (pre ++ t ∷ []))) (places_from (f + 1) T (pre ++ t ∷ []))) (any-append x pre t ∙ ap (λ b. list_any (bytes_eq x) pre || b) itself ∙ or_true (list_any (bytes_eq x) pre))
        ∙ ap (λ ps. f ∷ ps) (no_place (f + 1) T pre t (same_any t x T is ∙ a.0))
        ∙ by_pre (list_any (bytes_eq x) pre)
        ∙ ap (λ b. insert_key nat_cmp (cond (list_any (bytes_eq x) pre) (f ∷ (places_from (f + 1) T pre)) (places_from (f + 1) T pre)) (f + cond (not b) (1 + position_or_len (bytes_eq t) T) 0)) (sym e)
    by false e m go =
        ap (λ b. cond b (f ∷ (places_from (f + 1) T (pre ++ t ∷ []))) (places_from (f + 1) T (pre ++ t ∷ []))) (any-append x pre t ∙ ap (λ b. list_any (bytes_eq x) pre || b) (same_turned t x e) ∙ or_false (list_any (bytes_eq x) pre))
        ∙ later (list_any (bytes_eq x) pre) (go m ∙ ap (insert_key nat_cmp (places_from (f + 1) T pre)) (let q : (f + 1) + place bytes_eq t T ≡ f + (1 + place bytes_eq t T) = omega arith in q))
        ∙ ap (λ b. insert_key nat_cmp (cond (list_any (bytes_eq x) pre) (f ∷ (places_from (f + 1) T pre)) (places_from (f + 1) T pre)) (f + cond (not b) (1 + position_or_len (bytes_eq t) T) 0)) (sym e)

-- each text of a list is in a table
abbrev pub AreIn : List (List ℕ) → List (List ℕ) → Type 0
AreIn T [] = Unit {0}
AreIn T (t ∷ ts) = (list_any (bytes_eq t) T ≡ true) × AreIn T ts

joined : (xs : List (List ℕ)) (y : List ℕ) (zs : List (List ℕ)) → (xs ++ y ∷ []) ++ zs ≡ xs ++ y ∷ zs
joined [] y zs = refl
joined (x ∷ xs) y zs = ap (λ v. x ∷ v) (joined xs y zs)

nothing_behind : (xs : List (List ℕ)) → xs ++ [] ≡ xs
nothing_behind [] = refl
nothing_behind (x ∷ xs) = ap (λ ys. x ∷ ys) (nothing_behind xs)

more_places : (T : List (List ℕ)) (pre s : TextSet) → Apart T → AreIn T s → fold (insert_key nat_cmp) (places T pre) (map (λ t. place bytes_eq t T) s) ≡ places T (pre ++ s)
more_places T pre [] a h = ap (places T) (sym (nothing_behind pre))
more_places T pre (t ∷ s) a h =
    ap (λ ps. fold (insert_key nat_cmp) ps (map (λ t. place bytes_eq t T) s))
    (ap (insert_key nat_cmp (places T pre)) (let e : place bytes_eq t T ≡ 0 + place bytes_eq t T = omega arith in e) ∙ sym (one_place 0 T pre t a h.0))
    ∙ more_places T (pre ++ t ∷ []) s a h.1
    ∙ ap (places T) (joined pre t s)

none_placed : (f : ℕ) (T : List (List ℕ)) → places_from f T [] ≡ []
none_placed f [] = refl
none_placed f (x ∷ T) = none_placed (f + 1) T

-- the places of the texts of a set, put in order one by one
pub places_rise : (T : List (List ℕ)) (s : TextSet) → Apart T → AreIn T s → fold (insert_key nat_cmp) [] (map (λ t. place bytes_eq t T) s) ≡ places T s
places_rise T s a h = ap (λ ps. fold (insert_key nat_cmp) ps (map (λ t. place bytes_eq t T) s)) (sym (none_placed 0 T)) ∙ more_places T [] s a h

-- ---- the texts at the places of a set
abbrev pub chosen : List (List ℕ) → TextSet → List (List ℕ)
chosen T s = filter (λ t. list_any (bytes_eq t) s) T

-- ---- texts that are put in order one by one
self_equal : (t : List ℕ) → slice_cmp nat_cmp t t ≡ Equal
self_equal t = by (slice_cmp nat_cmp t t) (nat_list_cmp_total.antisymm t t)
  where
    by : (o : Ordering) → o ≡ ordering_reverse o → o ≡ Equal
    by Less e = absurd (cc)
    by Equal e = refl
    by Greater e = absurd (cc)

turned_less : (x t : List ℕ) → slice_cmp nat_cmp x t ≡ Less → slice_cmp nat_cmp t x ≡ Greater
turned_less x t h = nat_list_cmp_total.antisymm t x ∙ ap ordering_reverse h

-- each text of a list is behind this one
abbrev Behind : List ℕ → List (List ℕ) → Type 0
Behind x xs = AllByRecursion (λ y. slice_cmp nat_cmp x y ≡ Less) xs

behind_kept : (x : List ℕ) (p : List ℕ → Bool) (xs : List (List ℕ)) → Behind x xs → Behind x (filter p xs)
behind_kept x p [] h = tt
behind_kept x p (y ∷ xs) h = by (p y) (behind_kept x p xs h.1)
  where
    by : (b : Bool) → Behind x (filter p xs) → Behind x (cond b (y ∷ filter p xs) (filter p xs))
    by true k = (h.0, k)
    by false k = k

text_first : (t : List ℕ) (xs : List (List ℕ)) → Behind t xs → insert_key (slice_cmp nat_cmp) xs t ≡ t ∷ xs
text_first t [] h = refl
text_first t (x ∷ xs) h = ap (λ o. match_ordering o (t ∷ x ∷ xs) (x ∷ xs) (x ∷ insert_key (slice_cmp nat_cmp) xs t)) h.0

is_behind : (x t : List ℕ) (xs : List (List ℕ)) → Behind x xs → list_any (bytes_eq t) xs ≡ true → slice_cmp nat_cmp x t ≡ Less
is_behind x t [] h m = absurd (true≢false (sym m))
is_behind x t (y ∷ xs) h m = by (bytes_eq t y) refl m (λ m. is_behind x t xs h.1 m)
  where
    by : (b : Bool) → bytes_eq t y ≡ b → (b || list_any (bytes_eq t) xs) ≡ true → (list_any (bytes_eq t) xs ≡ true → slice_cmp nat_cmp x t ≡ Less) → slice_cmp nat_cmp x t ≡ Less
    by true e m go = subst (λ z. slice_cmp nat_cmp x z ≡ Less) (sym ((bytes_eq-Decides t y).0 e)) h.0
    by false e m go = go m

not_behind_itself : (x : List ℕ) (xs : List (List ℕ)) → Behind x xs → list_any (bytes_eq x) xs ≡ false
not_behind_itself x xs h = by (list_any (bytes_eq x) xs) refl
  where
    by : (b : Bool) → list_any (bytes_eq x) xs ≡ b → b ≡ false
    by true m = absurd (let e : Less ≡ Equal = sym (is_behind x x xs h m) ∙ self_equal x in cc)
    by false m = refl

no_text : (S pre : TextSet) (t : List ℕ) → list_any (bytes_eq t) S ≡ false → filter (λ x. list_any (bytes_eq x) (pre ++ t ∷ [])) S ≡ filter (λ x. list_any (bytes_eq x) pre) S
no_text [] pre t h = refl
no_text (x ∷ S) pre t h =
    let differs : bytes_eq x t ≡ false = same_turned t x (left (bytes_eq t x) (list_any (bytes_eq t) S) h) in
    ap (λ b. cond b (x ∷ filter (λ x. list_any (bytes_eq x) (pre ++ t ∷ [])) S) (filter (λ x. list_any (bytes_eq x) (pre ++ t ∷ [])) S))
    (any-append x pre t ∙ ap (λ b. list_any (bytes_eq x) pre || b) differs ∙ or_false (list_any (bytes_eq x) pre))
    ∙ ap (λ ps. cond (list_any (bytes_eq x) pre) (x ∷ ps) ps) (no_text S pre t (right (bytes_eq t x) (list_any (bytes_eq t) S) h))
  where
    left : (a b : Bool) → (a || b) ≡ false → a ≡ false
    left true b h = h
    left false b h = refl

    right : (a b : Bool) → (a || b) ≡ false → b ≡ false
    right true b h = absurd (true≢false h)
    right false b h = h

one_text : (S pre : TextSet) (t : List ℕ) → IsTextSet S → list_any (bytes_eq t) S ≡ true
    → filter (λ x. list_any (bytes_eq x) (pre ++ t ∷ [])) S ≡ insert_key (slice_cmp nat_cmp) (filter (λ x. list_any (bytes_eq x) pre) S) t
unfolding IsStrictlySortedBy
one_text [] pre t a h = absurd (true≢false (sym h))
one_text (x ∷ S) pre t a h = by (bytes_eq t x) refl h (λ m. one_text S pre t a.1 m)
  where
    by_pre : (b : Bool) → t ≡ x → x ∷ (filter (λ x. list_any (bytes_eq x) pre) S) ≡ insert_key (slice_cmp nat_cmp) (cond b (x ∷ (filter (λ x. list_any (bytes_eq x) pre) S)) (filter (λ x. list_any (bytes_eq x) pre) S)) t
    by_pre true e = sym (ap (λ o. match_ordering o (t ∷ x ∷ (filter (λ x. list_any (bytes_eq x) pre) S)) (x ∷ (filter (λ x. list_any (bytes_eq x) pre) S)) (x ∷ insert_key (slice_cmp nat_cmp) (filter (λ x. list_any (bytes_eq x) pre) S) t)) (ap (slice_cmp nat_cmp t) (sym e) ∙ self_equal t))
    by_pre false e = sym (text_first t (filter (λ x. list_any (bytes_eq x) pre) S) (behind_kept t (λ x. list_any (bytes_eq x) pre) S (subst (λ z. Behind z S) (sym e) a.0)) ∙ ap (λ z. z ∷ (filter (λ x. list_any (bytes_eq x) pre) S)) e)

    later : (b : Bool) → slice_cmp nat_cmp t x ≡ Greater → (filter (λ x. list_any (bytes_eq x) (pre ++ t ∷ [])) S) ≡ insert_key (slice_cmp nat_cmp) (filter (λ x. list_any (bytes_eq x) pre) S) t → cond b (x ∷ (filter (λ x. list_any (bytes_eq x) (pre ++ t ∷ [])) S)) (filter (λ x. list_any (bytes_eq x) (pre ++ t ∷ [])) S) ≡ insert_key (slice_cmp nat_cmp) (cond b (x ∷ (filter (λ x. list_any (bytes_eq x) pre) S)) (filter (λ x. list_any (bytes_eq x) pre) S)) t
    later true g e = ap (λ ps. x ∷ ps) e ∙ sym (ap (λ o. match_ordering o (t ∷ x ∷ (filter (λ x. list_any (bytes_eq x) pre) S)) (x ∷ (filter (λ x. list_any (bytes_eq x) pre) S)) (x ∷ insert_key (slice_cmp nat_cmp) (filter (λ x. list_any (bytes_eq x) pre) S) t)) g)
    later false g e = e

    by : (b : Bool) → bytes_eq t x ≡ b → (b || list_any (bytes_eq t) S) ≡ true
        → (list_any (bytes_eq t) S ≡ true → filter (λ x. list_any (bytes_eq x) (pre ++ t ∷ [])) S ≡ insert_key (slice_cmp nat_cmp) (filter (λ x. list_any (bytes_eq x) pre) S) t)
        → cond (list_any (bytes_eq x) (pre ++ t ∷ [])) (x ∷ (filter (λ x. list_any (bytes_eq x) (pre ++ t ∷ [])) S)) (filter (λ x. list_any (bytes_eq x) (pre ++ t ∷ [])) S) ≡ insert_key (slice_cmp nat_cmp) (cond (list_any (bytes_eq x) pre) (x ∷ (filter (λ x. list_any (bytes_eq x) pre) S)) (filter (λ x. list_any (bytes_eq x) pre) S)) t
    by true e m go =
        let is : t ≡ x = (bytes_eq-Decides t x).0 e in
        let itself : bytes_eq x t ≡ true = (bytes_eq-Decides x t).1 (sym is) in
        ap (λ b. cond b (x ∷ (filter (λ x. list_any (bytes_eq x) (pre ++ t ∷ [])) S)) (filter (λ x. list_any (bytes_eq x) (pre ++ t ∷ [])) S)) (any-append x pre t ∙ ap (λ b. list_any (bytes_eq x) pre || b) itself ∙ or_true (list_any (bytes_eq x) pre))
        ∙ ap (λ ps. x ∷ ps) (no_text S pre t (same_any t x S is ∙ not_behind_itself x S a.0))
        ∙ by_pre (list_any (bytes_eq x) pre) is
    by false e m go =
        ap (λ b. cond b (x ∷ (filter (λ x. list_any (bytes_eq x) (pre ++ t ∷ [])) S)) (filter (λ x. list_any (bytes_eq x) (pre ++ t ∷ [])) S)) (any-append x pre t ∙ ap (λ b. list_any (bytes_eq x) pre || b) (same_turned t x e) ∙ or_false (list_any (bytes_eq x) pre))
        ∙ later (list_any (bytes_eq x) pre) (turned_less x t (is_behind x t S a.0 m)) (go m)

more_texts : (S pre ts : TextSet) → IsTextSet S → AreIn S ts → fold (insert_key (slice_cmp nat_cmp)) (filter (λ x. list_any (bytes_eq x) pre) S) ts ≡ filter (λ x. list_any (bytes_eq x) (pre ++ ts)) S
more_texts S pre [] a h = ap (λ ys. filter (λ x. list_any (bytes_eq x) ys) S) (sym (nothing_behind pre))
more_texts S pre (t ∷ ts) a h =
    ap (λ ps. fold (insert_key (slice_cmp nat_cmp)) ps ts) (sym (one_text S pre t a h.0))
    ∙ more_texts S (pre ++ t ∷ []) ts a h.1
    ∙ ap (λ ys. filter (λ x. list_any (bytes_eq x) ys) S) (joined pre t ts)

none_kept : (S : TextSet) → filter (λ x. list_any (bytes_eq x) []) S ≡ []
none_kept [] = refl
none_kept (x ∷ S) = none_kept S

all_kept : (S ts : TextSet) → AreIn ts S → filter (λ x. list_any (bytes_eq x) ts) S ≡ S
all_kept [] ts h = refl
all_kept (x ∷ S) ts h = ap (λ b. cond b (x ∷ filter (λ x. list_any (bytes_eq x) ts) S) (filter (λ x. list_any (bytes_eq x) ts) S)) h.0 ∙ ap (λ ys. x ∷ ys) (all_kept S ts h.1)

-- texts that are those of a set make that set
pub set_made : (S ts : TextSet) → IsTextSet S → AreIn S ts → AreIn ts S → set_of ts ≡ S
set_made S ts a h k = ap (λ ps. fold (insert_key (slice_cmp nat_cmp)) ps ts) (sym (none_kept S)) ∙ more_texts S [] ts a h ∙ all_kept S ts k

chosen_in : (T : List (List ℕ)) (s : TextSet) → AreIn s (chosen T s)
chosen_in [] s = tt
chosen_in (x ∷ T) s = by (list_any (bytes_eq x) s) refl (chosen_in T s)
  where
    by : (b : Bool) → list_any (bytes_eq x) s ≡ b → AreIn s (chosen T s) → AreIn s (cond b (x ∷ filter (λ t. list_any (bytes_eq t) s) T) (filter (λ t. list_any (bytes_eq t) s) T))
    by true e k = (e, k)
    by false e k = k

in_chosen : (t : List ℕ) (T : List (List ℕ)) (s : TextSet) → list_any (bytes_eq t) s ≡ true → list_any (bytes_eq t) T ≡ true → list_any (bytes_eq t) (chosen T s) ≡ true
in_chosen t [] s h m = absurd (true≢false (sym m))
in_chosen t (x ∷ T) s h m = by (bytes_eq t x) refl m (list_any (bytes_eq x) s) refl (λ m. in_chosen t T s h m)
  where
    by : (b : Bool) → bytes_eq t x ≡ b → (b || list_any (bytes_eq t) T) ≡ true → (c : Bool) → list_any (bytes_eq x) s ≡ c
        → (list_any (bytes_eq t) T ≡ true → list_any (bytes_eq t) (chosen T s) ≡ true) → list_any (bytes_eq t) (cond c (x ∷ filter (λ t. list_any (bytes_eq t) s) T) (filter (λ t. list_any (bytes_eq t) s) T)) ≡ true
    by true e m true f go = or_left (bytes_eq t x) (list_any (bytes_eq t) (filter (λ t. list_any (bytes_eq t) s) T)) e
    by true e m false f go = absurd (true≢false (sym h ∙ same_any t x s ((bytes_eq-Decides t x).0 e) ∙ f))
    by false e m true f go = or_right (bytes_eq t x) (list_any (bytes_eq t) (filter (λ t. list_any (bytes_eq t) s) T)) (go m)
    by false e m false f go = go m

all_in_chosen : (us s : TextSet) (T : List (List ℕ)) → AreIn s us → AreIn T us → AreIn (chosen T s) us
all_in_chosen [] s T h k = tt
all_in_chosen (t ∷ us) s T h k = (in_chosen t T s h.0 k.0, all_in_chosen us s T h.1 k.1)

any_here : (t : List ℕ) (pre s : TextSet) → list_any (bytes_eq t) (pre ++ t ∷ s) ≡ true
any_here t [] s = or_left (bytes_eq t t) (list_any (bytes_eq t) s) ((bytes_eq-Decides t t).1 refl)
any_here t (x ∷ pre) s = or_right (bytes_eq t x) (list_any (bytes_eq t) (pre ++ t ∷ s)) (any_here t pre s)

pub in_itself : (pre s : TextSet) → AreIn (pre ++ s) s
in_itself pre [] = tt
in_itself pre (t ∷ s) = (any_here t pre s, subst (λ ys. AreIn ys s) (joined pre t s) (in_itself (pre ++ t ∷ []) s))

-- the texts at the places of a set make the set
pub chosen_made : (T : List (List ℕ)) (s : TextSet) → IsTextSet s → AreIn T s → set_of (chosen T s) ≡ s
chosen_made T s a h = set_made s (chosen T s) a (chosen_in T s) (all_in_chosen s s T (in_itself [] s) h)
