-- What is written is read from its front.
use Rattle.std.proofs.Common.{◌≡◌, ◌≢◌, ◌⊎◌, inl, inr, ℕ, zero, suc, ◌+◌, ◌^◌, ◌<◌, Bool, true, false, cond, List, [], ◌∷◌, ◌++◌, length, map, slice_get, Option, Some, None, decimal, codes, refl, sym, ap, subst, ◌∙◌, arith, append_assoc, append-nil, length-append}
use Rattle.std.specs.Prelude.{not, ◌==◌, nat_eq, nat_lt, replicate}
use Rattle.std.specs.List.{list_any, flat_map, filter, position_or_len, before_first, after_first, slice_split, onto_first, join_with_byte}
use Rattle.std.specs.Str.{bytes_eq, all_ascii_digits}
use Rattle.std.proofs.lemmas.Bool.{true≢false}
use Rattle.std.proofs.lemmas.Bool.Decides.{nat_tests}
use Rattle.std.proofs.lemmas.List.{length-replicate}
use Rattle.std.proofs.lemmas.Fmt.{digits_decimal}
use Rattle.std.proofs.lemmas.Str.Parse.{tells_all_ascii_digits, numerals_by_value}
use Rattle.std.proofs.lemmas.List.Splits.{slice_split-cons_no}
use Rattle.resin_frozen.specs.Policies.{IsPolicyText}
use Rattle.resin_frozen.specs.Reading.{Read, and_then, literal, cut, number, natural}
use Rattle.resin_frozen.proofs.Numbers.{lacks, and_left, and_right, both, none_some, some_if, number-decimal}
use Rattle.resin_frozen.proofs.Parts.{on, literal-front, cut-front}
use Rattle.resin_frozen.proofs.One_text.{front_is}
use Rattle.resin_shadow.specs.Marks.{TextSet, IsTextSet, Marks, MarkRun, Each, same_set, spelled}
use Rattle.resin_shadow.specs.Shadows.{line, place, places_from, places, set_line, set_place, run_line1, run_line2}
use Rattle.resin_shadow.specs.Runs.{HasNumber, AreTextsAt, set_of}
use Rattle.resin_shadow.specs.Readers.{times, policy_step, words, text_told, texts_told, set_told, set_step, run_parts, run_set1, run_set2, longer, pushed, run_step}
use Rattle.resin_shadow.proofs.Kept.{slice_last, slice_kept}
use Rattle.resin_shadow.proofs.Places.{AreIn, chosen, chosen_made}

abbrev pub IsSmall : ℕ → Type 0
IsSmall n = n < 2 ^ 64

-- ---- bytes that a number lacks
lacks_digits : (ds : List ℕ) → all_ascii_digits ds ≡ true → (c : ℕ) → c < 48 → lacks c ds ≡ true
lacks_digits [] h c lt = refl
lacks_digits (d ∷ ds) h c lt =
    let k = (tells_all_ascii_digits).parts d ds h in
    let e : nat_eq d c ≡ false = let l = k.0 in grind (arith, nat_tests) in
    both _ _ (ap not e) (lacks_digits ds k.1 c lt)

pub lacks_number : (c n : ℕ) → c < 48 → IsSmall n → lacks c (decimal n) ≡ true
lacks_number c n low h = lacks_digits (decimal n) (digits_decimal (numerals_by_value _ tells_all_ascii_digits) n h) c low

lacks-append : (c : ℕ) (xs ys : List ℕ) → lacks c xs ≡ true → lacks c ys ≡ true → lacks c (xs ++ ys) ≡ true
lacks-append c [] ys h k = k
lacks-append c (x ∷ xs) ys h k = both _ _ (and_left _ _ h) (lacks-append c xs ys (and_right _ _ h) k)

lacks_join : (ns : List ℕ) → Each IsSmall ns → lacks 10 (join_with_byte 32 (map decimal ns)) ≡ true
lacks_join [] h = refl
lacks_join (n ∷ []) h = lacks_number 10 n (omega arith) h.0
lacks_join (n ∷ m ∷ ns) h = lacks-append 10 (decimal n) (32 ∷ join_with_byte 32 (map decimal (m ∷ ns))) (lacks_number 10 n (omega arith) h.0) (lacks_join (m ∷ ns) h.1)

pub natural_front : (c n : ℕ) (rest : List ℕ) → c < 48 → IsSmall n → natural c (decimal n ++ c ∷ rest) ≡ Some (n, rest)
unfolding natural
natural_front c n rest low h =
    on (λ l. and_then (number l.0) (λ n. Some (n, l.1))) (cut-front c (decimal n) rest (lacks_number c n low h))
    ∙ on (λ n. Some (n, rest)) (number-decimal n h)

-- ---- words
abbrev is_space : ℕ → Bool
is_space b = nat_eq b 32

not_true : (b : Bool) → not b ≡ true → b ≡ false
not_true true h = absurd (true≢false (sym h))
not_true false h = refl

split_word : (w rest : List ℕ) → lacks 32 w ≡ true → slice_split is_space (w ++ 32 ∷ rest) ≡ w ∷ slice_split is_space rest
split_word [] rest h = refl
split_word (b ∷ w) rest h = slice_split-cons_no is_space b (w ++ 32 ∷ rest) (not_true (nat_eq b 32) (and_left _ _ h)) ∙ ap (onto_first b) (split_word w rest (and_right _ _ h))

split_last : (w : List ℕ) → lacks 32 w ≡ true → slice_split is_space w ≡ w ∷ []
split_last [] h = refl
split_last (b ∷ w) h = slice_split-cons_no is_space b w (not_true (nat_eq b 32) (and_left _ _ h)) ∙ ap (onto_first b) (split_last w (and_right _ _ h))

words_of : (n : ℕ) (ns : List ℕ) → Each IsSmall (n ∷ ns) → words (join_with_byte 32 (map decimal (n ∷ ns))) ≡ map decimal (n ∷ ns)
words_of n [] h = split_last (decimal n) (lacks_number 32 n (omega arith) h.0)
words_of n (m ∷ ns) h =
    split_word (decimal n) (join_with_byte 32 (map decimal (m ∷ ns))) (lacks_number 32 n (omega arith) h.0) ∙ ap (λ ws. decimal n ∷ ws) (words_of m ns h.1)

-- ---- the texts at places
text_there : (T : List (List ℕ)) (n : ℕ) (t : List ℕ) → IsSmall n → HasNumber T n t → text_told T (decimal n) ≡ Some t
unfolding text_told
text_there T n t h e = on (λ n. slice_get T n) (number-decimal n h) ∙ e

texts_there : (T acc : List (List ℕ)) (ns : List ℕ) (ts : TextSet) → Each IsSmall ns → AreTextsAt T ns ts → texts_told T acc (map decimal ns) ≡ Some (acc ++ ts)
texts_there T acc [] [] h a = ap Some (sym (append-nil acc))
texts_there T acc [] (t ∷ ts) h a = absurd a
texts_there T acc (n ∷ ns) [] h a = absurd a
texts_there T acc (n ∷ ns) (t ∷ ts) h a =
    on (λ t. texts_told T (acc ++ t ∷ []) (map decimal ns)) (text_there T n t h.0 a.0)
    ∙ texts_there T (acc ++ t ∷ []) ns ts h.1 a.1
    ∙ ap Some (append_assoc acc (t ∷ []) ts)

set_there : (T : List (List ℕ)) (n : ℕ) (ns : List ℕ) (ts : TextSet) → Each IsSmall (n ∷ ns) → AreTextsAt T (n ∷ ns) ts → set_told T (join_with_byte 32 (map decimal (n ∷ ns))) ≡ Some (set_of ts)
unfolding set_told
set_there T n ns ts h a =
    ap (λ ws. and_then (texts_told T [] ws) (λ ts. Some (set_of ts))) (words_of n ns h)
    ∙ on (λ ts. Some (set_of ts)) (texts_there T [] (n ∷ ns) ts h a)

-- ---- the places of a set's texts
with_head : (pre : List (List ℕ)) (x : List ℕ) (T : List (List ℕ)) → (pre ++ x ∷ []) ++ T ≡ pre ++ x ∷ T
with_head pre x T = append_assoc pre (x ∷ []) T

placed_from : (pre T : List (List ℕ)) (s : TextSet) (f : ℕ) → f ≡ length pre → AreTextsAt (pre ++ T) (places_from f T s) (chosen T s)
placed_from pre [] s f e = tt
placed_from pre (x ∷ T) s f e =
    by (list_any (bytes_eq x) s)
    (subst (λ xs. AreTextsAt xs (places_from (f + 1) T s) (filter (λ t. list_any (bytes_eq t) s) T)) (with_head pre x T)
    (placed_from (pre ++ x ∷ []) T s (f + 1) (let l : length (pre ++ x ∷ []) ≡ length pre + 1 = length-append pre (x ∷ []) in omega (arith, l, e))))
  where
    here : HasNumber (pre ++ x ∷ T) f x
    here = subst (λ n. HasNumber (pre ++ x ∷ T) n x) (sym e) (subst (λ xs. HasNumber xs (length pre) x) (with_head pre x T) (slice_kept (pre ++ x ∷ []) T (length pre) x (slice_last pre x)))

    by : (b : Bool) → AreTextsAt (pre ++ x ∷ T) (places_from (f + 1) T s) (filter (λ t. list_any (bytes_eq t) s) T) → AreTextsAt (pre ++ x ∷ T) (cond b (f ∷ places_from (f + 1) T s) (places_from (f + 1) T s)) (cond b (x ∷ filter (λ t. list_any (bytes_eq t) s) T) (filter (λ t. list_any (bytes_eq t) s) T))
    by true rest = (here, rest)
    by false rest = rest

pub are_placed : (T : List (List ℕ)) (s : TextSet) → AreTextsAt T (places T s) (chosen T s)
are_placed T s = placed_from [] T s 0 refl

within_length : {X : Type 0} (xs : List X) (n : ℕ) (x : X) → slice_get xs n ≡ Some x → n < length xs
within_length [] n x e = absurd (none_some x e)
within_length (y ∷ xs) zero x e = omega arith
within_length (y ∷ xs) (suc n) x e = let h = within_length xs n x e in omega (arith, h)

are_small : (T : List (List ℕ)) (ns : List ℕ) (ts : TextSet) → IsSmall (length T) → AreTextsAt T ns ts → Each IsSmall ns
are_small T [] ts h a = tt
are_small T (n ∷ ns) [] h a = absurd a
are_small T (n ∷ ns) (t ∷ ts) h a = (let l = within_length T n t a.0 in omega (arith, h, l), are_small T ns ts h a.1)

-- a set is told by the places of its texts, which are none where it is empty
told_by : (T : List (List ℕ)) (s ts : TextSet) (ps : List ℕ) → Each IsSmall ps → AreTextsAt T ps ts → set_of ts ≡ s
    → ((ps ≡ []) × (s ≡ [])) ⊎ ((p : ℕ) × (qs : List ℕ) × (ps ≡ p ∷ qs) × (set_told T (join_with_byte 32 (map decimal ps)) ≡ Some s))
told_by T s [] [] h a e = inl (refl, sym e)
told_by T s (t ∷ ts) [] h a e = absurd a
told_by T s ts (p ∷ ps) h a e = inr (p, ps, refl, set_there T p ps ts h a ∙ ap Some e)

-- what a set has to be for a table
pub record IsWithin (T : List (List ℕ)) (s : TextSet) : Type 0 where
  pub is_set : IsTextSet s
  pub there : AreIn T s

told_places : (T : List (List ℕ)) (s : TextSet) → IsSmall (length T) → IsWithin T s
    → ((places T s ≡ []) × (s ≡ [])) ⊎ ((p : ℕ) × (qs : List ℕ) × (places T s ≡ p ∷ qs) × (set_told T (join_with_byte 32 (map decimal (places T s))) ≡ Some s))
told_places T s small h = told_by T s (chosen T s) (places T s) (are_small T (places T s) (chosen T s) small (are_placed T s)) (are_placed T s) (chosen_made T s h.is_set h.there)

-- ---- so many items, one behind the other
pub times_items : {X : Type 0} (step : List X → Read (List X)) (text : X → List ℕ) (Good : X → Type 0)
    → ((acc : List X) (x : X) (rest : List ℕ) → Good x → step acc (text x ++ rest) ≡ Some (acc ++ x ∷ [], rest))
    → (xs acc : List X) (rest : List ℕ) → Each Good xs → times step (length xs) acc (flat_map text xs ++ rest) ≡ Some (acc ++ xs, rest)
times_items step text Good one [] acc rest h = ap (λ a. Some (a, rest)) (sym (append-nil acc))
times_items step text Good one (x ∷ xs) acc rest h =
    ap (λ ys. and_then (step acc ys) (λ p. times step (length xs) p.0 p.1)) (append_assoc (text x) (flat_map text xs) rest)
    ∙ on (λ p. times step (length xs) p.0 p.1) (one acc x (flat_map text xs ++ rest) h.0)
    ∙ times_items step text Good one xs (acc ++ x ∷ []) rest h.1
    ∙ ap (λ a. Some (a, rest)) (append_assoc acc (x ∷ []) xs)

-- ---- a policy's line
pub policy_front : (acc : List (List ℕ)) (t rest : List ℕ) → IsPolicyText t → policy_step acc ((t ++ 10 ∷ []) ++ rest) ≡ Some (acc ++ t ∷ [], rest)
unfolding policy_step
policy_front acc t rest h =
    on (λ t. and_then (literal (codes "\n") t.1) (λ e. Some (acc ++ t.0 ∷ [], e.1))) (front_is ((t ++ 10 ∷ []) ++ rest) t (10 ∷ rest) h (append_assoc t (10 ∷ []) rest))
    ∙ on (λ e. Some (acc ++ t ∷ [], e.1)) (literal-front (codes "\n") rest)

line_front : (l rest : List ℕ) → lacks 10 l ≡ true → cut 10 ((l ++ 10 ∷ []) ++ rest) ≡ Some (l, rest)
line_front l rest h = ap (cut 10) (append_assoc l (10 ∷ []) rest) ∙ cut-front 10 l rest h

-- ---- a set's line
pub set_front : (T : List (List ℕ)) (acc : List TextSet) (s : TextSet) (rest : List ℕ) → IsSmall (length T) → IsWithin T s → s ≢ [] → set_step T acc (set_line T s ++ rest) ≡ Some (acc ++ s ∷ [], rest)
unfolding set_step
set_front T acc s rest small h some = by (told_places T s small h)
  where
    by : ((places T s ≡ []) × (s ≡ [])) ⊎ ((p : ℕ) × (qs : List ℕ) × (places T s ≡ p ∷ qs) × (set_told T (join_with_byte 32 (map decimal (places T s))) ≡ Some s))
        → and_then {B = List TextSet × List ℕ} (cut 10 (set_line T s ++ rest)) (λ l. and_then {B = List TextSet × List ℕ} (set_told T l.0) (λ s. Some (acc ++ s ∷ [], l.1))) ≡ Some (acc ++ s ∷ [], rest)
    by (inl e) = absurd (some e.1)
    by (inr e) =
        on (λ l. and_then (set_told T l.0) (λ s. Some (acc ++ s ∷ [], l.1)))
        (line_front (join_with_byte 32 (map decimal (places T s))) rest (lacks_join (places T s) (are_small T (places T s) (chosen T s) small (are_placed T s))))
        ∙ on (λ s. Some (acc ++ s ∷ [], rest)) e.3

-- ---- a run's line
no_space : (w : List ℕ) → lacks 32 w ≡ true → position_or_len (λ b. nat_eq b 32) w ≡ length w
no_space [] h = refl
no_space (b ∷ w) h = ap (λ c. cond c (1 + position_or_len (λ b. nat_eq b 32) w) 0) (and_left _ _ h) ∙ (let e = no_space w (and_right _ _ h) in omega (arith, e))

not_below : (n : ℕ) → nat_lt n n ≡ false
not_below n = grind (arith, nat_tests)

parts_alone : (n : ℕ) → IsSmall n → run_parts (decimal n) ≡ Some (n, None)
unfolding run_parts
parts_alone n h =
    let off : nat_lt (position_or_len (λ b. nat_eq b 32) (decimal n)) (length (decimal n)) ≡ false = ap (λ k. nat_lt k (length (decimal n))) (no_space (decimal n) (lacks_number 32 n (omega arith) h)) ∙ not_below (length (decimal n)) in
    rw off (rw (number-decimal n h) refl)

parts_more : (n : ℕ) (w : List ℕ) → IsSmall n → run_parts (decimal n ++ 32 ∷ w) ≡ Some (n, Some w)
unfolding run_parts cut
parts_more n w h =
    let l : List ℕ = decimal n ++ 32 ∷ w in
    let c = some_if (nat_lt (position_or_len (λ b. nat_eq b 32) l) (length l)) (before_first (λ b. nat_eq b 32) l, after_first (λ b. nat_eq b 32) l) (decimal n, w) (cut-front 32 (decimal n) w (lacks_number 32 n (omega arith) h)) in
    ap (λ b. cond b (and_then (number (before_first (λ b. nat_eq b 32) l)) (λ n. Some (n, Some (after_first (λ b. nat_eq b 32) l)))) (and_then (number l) (λ n. Some (n, None)))) c.0
    ∙ ap (λ p. and_then (number p.0) (λ n. Some (n, Some p.1))) c.1
    ∙ on (λ n. Some (n, Some w)) (number-decimal n h)

pub longer_there : (acc : Marks) (n : ℕ) (s : TextSet) → 0 < n → IsSmall (length acc + n) → longer acc (n, s) ≡ Some (acc ++ replicate n s)
unfolding longer
longer_there acc n s some small =
    let a : nat_eq n 0 ≡ false = grind (arith, nat_tests) in
    let b : nat_lt (length acc + n) (2 ^ 64) ≡ true = grind (arith, nat_tests) in
    ap (λ c. cond c None (cond (nat_lt (length acc + n) (2 ^ 64)) (Some (acc ++ replicate n s)) None)) a ∙ ap (λ c. cond c (Some (acc ++ replicate n s)) None) b

-- a run by its line: its parts, and the set that these tell
run_there : (told : Option (List ℕ) → Option TextSet) (acc : Marks) (l : List ℕ) (n : ℕ) (p : Option (List ℕ)) (s : TextSet) (rest : List ℕ)
    → lacks 10 l ≡ true → run_parts l ≡ Some (n, p) → told p ≡ Some s → 0 < n → IsSmall (length acc + n) → run_step told acc ((l ++ 10 ∷ []) ++ rest) ≡ Some (acc ++ replicate n s, rest)
unfolding run_step
run_there told acc l n p s rest low parts set some small =
    on (λ l. and_then (run_parts l.0) (λ p. and_then (pushed acc told p) (λ v. Some (v, l.1)))) (line_front l rest low)
    ∙ on (λ p. and_then (pushed acc told p) (λ v. Some (v, rest))) parts
    ∙ on (λ v. Some (v, rest)) (on (λ s. longer acc (n, s)) set ∙ longer_there acc n s some small)

pub run_front1 : (T : List (List ℕ)) (acc : Marks) (r : MarkRun) (rest : List ℕ) → IsSmall (length T) → IsWithin T r.1 → 0 < r.0 → IsSmall (length acc + r.0)
    → run_step (run_set1 T) acc (run_line1 T r ++ rest) ≡ Some (acc ++ replicate r.0 r.1, rest)
run_front1 T acc r rest small h some total = by (places T r.1) (told_places T r.1 small h) (are_small T (places T r.1) (chosen T r.1) small (are_placed T r.1))
  where
    low : IsSmall r.0
    low = omega (arith, total)

    by : (ps : List ℕ) → ((ps ≡ []) × (r.1 ≡ [])) ⊎ ((p : ℕ) × (qs : List ℕ) × (ps ≡ p ∷ qs) × (set_told T (join_with_byte 32 (map decimal ps)) ≡ Some r.1))
        → Each IsSmall ps → run_step (run_set1 T) acc (line (decimal r.0 ∷ map decimal ps) ++ rest) ≡ Some (acc ++ replicate r.0 r.1, rest)
    by [] (inl e) k = run_there (run_set1 T) acc (decimal r.0) r.0 None r.1 rest (lacks_number 10 r.0 (omega arith) low) (parts_alone r.0 low) (ap Some (sym e.1)) some total
    by [] (inr e) k = absurd (let d : [] ≡ e.0 ∷ e.1 = e.2 in cc)
    by (p ∷ ps) (inl e) k = absurd (let d : p ∷ ps ≡ [] = e.0 in cc)
    by (p ∷ ps) (inr e) k =
        run_there (run_set1 T) acc (decimal r.0 ++ 32 ∷ join_with_byte 32 (map decimal (p ∷ ps))) r.0 (Some (join_with_byte 32 (map decimal (p ∷ ps)))) r.1 rest
        (lacks-append 10 (decimal r.0) (32 ∷ join_with_byte 32 (map decimal (p ∷ ps))) (lacks_number 10 r.0 (omega arith) low) (lacks_join (p ∷ ps) k))
        (parts_more r.0 (join_with_byte 32 (map decimal (p ∷ ps))) low) e.3 some total

-- a set that is empty, or has a place in a table
abbrev pub HasPlace : List TextSet → TextSet → Type 0
HasPlace S s = (s ≡ []) ⊎ ((s ≢ []) × (slice_get S (place same_set s S) ≡ Some s))

some_set : (s : TextSet) → s ≢ [] → (length s == 0) ≡ false
some_set [] h = absurd (h refl)
some_set (x ∷ s) h = grind (arith, nat_tests)

pub run_front2 : (S : List TextSet) (acc : Marks) (r : MarkRun) (rest : List ℕ) → IsSmall (length S) → HasPlace S r.1 → 0 < r.0 → IsSmall (length acc + r.0)
    → run_step (run_set2 S) acc (run_line2 S r ++ rest) ≡ Some (acc ++ replicate r.0 r.1, rest)
run_front2 S acc r rest small h some total = by h
  where
    low : IsSmall r.0
    low = omega (arith, total)

    by : (r.1 ≡ []) ⊎ ((r.1 ≢ []) × (slice_get S (place same_set r.1 S) ≡ Some r.1)) → run_step (run_set2 S) acc (line (decimal r.0 ∷ set_place S r.1) ++ rest) ≡ Some (acc ++ replicate r.0 r.1, rest)
    by (inl e) =
        ap (λ s. run_step (run_set2 S) acc (line (decimal r.0 ∷ set_place S s) ++ rest)) e
        ∙ run_there (run_set2 S) acc (decimal r.0) r.0 None r.1 rest (lacks_number 10 r.0 (omega arith) low) (parts_alone r.0 low) (ap Some (sym e)) some total
    by (inr e) =
        let at : IsSmall (place same_set r.1 S) = let l = within_length S (place same_set r.1 S) r.1 e.1 in omega (arith, small, l) in
        ap (λ b. run_step (run_set2 S) acc (line (decimal r.0 ∷ cond b [] (decimal (place same_set r.1 S) ∷ [])) ++ rest)) (some_set r.1 e.0)
        ∙ run_there (run_set2 S) acc (decimal r.0 ++ 32 ∷ decimal (place same_set r.1 S)) r.0 (Some (decimal (place same_set r.1 S))) r.1 rest
        (lacks-append 10 (decimal r.0) (32 ∷ decimal (place same_set r.1 S)) (lacks_number 10 r.0 (omega arith) low) (lacks_number 10 (place same_set r.1 S) (omega arith) at))
        (parts_more r.0 (decimal (place same_set r.1 S)) low) (on (λ k. slice_get S k) (number-decimal (place same_set r.1 S) at) ∙ e.1) some total

-- so many runs, one behind the other
pub times_runs : (step : Marks → Read Marks) (text : MarkRun → List ℕ) (Good : TextSet → Type 0)
    → ((acc : Marks) (r : MarkRun) (rest : List ℕ) → Good r.1 → 0 < r.0 → IsSmall (length acc + r.0) → step acc (text r ++ rest) ≡ Some (acc ++ replicate r.0 r.1, rest))
    → (rs : List MarkRun) (acc : Marks) (rest : List ℕ) → Each (λ r. Good r.1) rs → Each (λ r. 0 < r.0) rs → IsSmall (length (acc ++ spelled rs))
    → times step (length rs) acc (flat_map text rs ++ rest) ≡ Some (acc ++ spelled rs, rest)
times_runs step text Good one [] acc rest h some small = ap (λ a. Some (a, rest)) (sym (append-nil acc))
times_runs step text Good one (r ∷ rs) acc rest h some small =
    let e : (acc ++ replicate r.0 r.1) ++ spelled rs ≡ acc ++ spelled (r ∷ rs) = append_assoc acc (replicate r.0 r.1) (spelled rs) in
    ap (λ ys. and_then (step acc ys) (λ p. times step (length rs) p.0 p.1)) (append_assoc (text r) (flat_map text rs) rest)
    ∙ on (λ p. times step (length rs) p.0 p.1) (one acc r (flat_map text rs ++ rest) h.0 some.0 (first_small acc r (spelled rs) small))
    ∙ times_runs step text Good one rs (acc ++ replicate r.0 r.1) rest h.1 some.1 (subst (λ v. IsSmall (length v)) (sym e) small)
    ∙ ap (λ a. Some (a, rest)) e
  where
    first_small : (acc : Marks) (r : MarkRun) (v : Marks) → IsSmall (length (acc ++ (replicate r.0 r.1 ++ v))) → IsSmall (length acc + r.0)
    first_small acc r v h =
        let a : length (acc ++ (replicate r.0 r.1 ++ v)) ≡ length acc + length (replicate r.0 r.1 ++ v) = length-append acc (replicate r.0 r.1 ++ v) in
        let b : length (replicate r.0 r.1 ++ v) ≡ length (replicate r.0 r.1) + length v = length-append (replicate r.0 r.1) v in
        let c : length (replicate r.0 r.1) ≡ r.0 = length-replicate r.0 r.1 in
        omega (arith, h, a, b, c)
