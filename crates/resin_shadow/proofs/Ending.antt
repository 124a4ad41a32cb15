-- What calls that write and read end with.
use Rattle.std.proofs.Common.{◌≡◌, ◌≢◌, inr, ℕ, zero, suc, ◌+◌, ◌^◌, ◌<◌, ◌≤◌, Bool, true, false, cond, List, [], ◌∷◌, ◌++◌, length, map, take, get_or, Option, Some, None, decimal, codes, refl, sym, ap, subst, ◌∙◌, arith, append_assoc}
use Rattle.std.specs.Prelude.{not, nat_eq, nat_lt, replicate, position}
use Rattle.std.specs.List.{fold, flat_map, position_or_len}
use Rattle.std.specs.Option.{SomeIff, is_some}
use Rattle.std.specs.BTreeSet.{insert_key}
use Rattle.std.specs.Ordering.{nat_cmp}
use Rattle.std.proofs.lemmas.Bool.{true≢false}
use Rattle.std.proofs.lemmas.Bool.Decides.{nat_tests}
use Rattle.std.proofs.lemmas.List.{length-replicate}
use Rattle.resin_frozen.proofs.Numbers.{from_some, none_some}
use Rattle.resin_shadow.specs.declared.table.Table.{Table}
use Rattle.resin_shadow.specs.Marks.{TextSet, Marks}
use Rattle.resin_shadow.specs.Shadows.{line, place, written1, written2, Spells}
use Rattle.resin_shadow.specs.Runs.{HasNumber, AreTextsAt, marks_of, IsTable, Grows}
use Rattle.resin_shadow.specs.Printed.{sets_met, texts_met, rising, policies_text, set_text, run_text1, run_text2}
use Rattle.resin_shadow.specs.Readers.{longer, read1, read2, DecodesBy}
use Rattle.resin_shadow.proofs.Kept.{related_push, texts_kept}
use Rattle.resin_shadow.proofs.First_met.{fold-append}
use Rattle.resin_shadow.proofs.Loops.{take_next}
use Rattle.resin_shadow.proofs.Fronts.{longer_there}
use Rattle.resin_shadow.proofs.Whole.{read1_written, read2_written}
use Rattle.resin_shadow.proofs.Encoded.{line_words, nothing_written1, nothing_written2, whole1, whole2}

-- ---- writing
pub line_pushed : (old first : List ℕ) (ns : List ℕ) (a b c : List ℕ) → a ≡ old ++ first → b ≡ a ++ flat_map (λ n. 32 ∷ decimal n) ns → c ≡ b ++ 10 ∷ [] → c ≡ old ++ line (first ∷ map decimal ns)
line_pushed old first ns a b c e f g =
    g ∙ ap (λ t. t ++ 10 ∷ []) (f ∙ ap (λ t. t ++ flat_map (λ n. 32 ∷ decimal n) ns) e)
    ∙ append_assoc (old ++ first) (flat_map (λ n. 32 ∷ decimal n) ns) (10 ∷ [])
    ∙ append_assoc old first (flat_map (λ n. 32 ∷ decimal n) ns ++ 10 ∷ [])
    ∙ ap (λ t. old ++ t) (sym (line_words first ns))

at_most : {X : Type 0} (p : X → Bool) (xs : List X) → position_or_len p xs ≤ length xs
at_most p [] = omega arith
at_most p (x ∷ xs) = by (p x) (at_most p xs)
  where
    by : (b : Bool) → position_or_len p xs ≤ length xs → cond (not b) (1 + position_or_len p xs) 0 ≤ suc (length xs)
    by true h = omega arith
    by false h = omega (arith, h)

pub not_placed : {X : Type 0} (p : X → Bool) (xs : List X) → None ≡ position p xs → length xs ≡ position_or_len p xs
not_placed p xs e = by (nat_lt (position_or_len p xs) (length xs)) refl e
  where
    by : (b : Bool) → nat_lt (position_or_len p xs) (length xs) ≡ b → None ≡ cond b (Some (position_or_len p xs)) None → length xs ≡ position_or_len p xs
    by true t e = absurd (none_some (position_or_len p xs) e)
    by false t e = let m = at_most p xs in let l : length xs ≤ position_or_len p xs = grind (arith, nat_tests) in omega (arith, m, l)

map-append : (f : ℕ → ℕ) (xs ys : List ℕ) → map f (xs ++ ys) ≡ map f xs ++ map f ys
map-append f [] ys = refl
map-append f (x ∷ xs) ys = ap (λ zs. f x ∷ zs) (map-append f xs ys)

pub rising_next : (met ns : List ℕ) (i : ℕ) → i < length ns → rising met (take (i + 1) ns) ≡ insert_key nat_cmp (rising met (take i ns)) (place nat_eq (get_or ns i 0) met)
rising_next met ns i h =
    ap (rising met) (take_next ns i 0 h)
    ∙ ap (fold (insert_key nat_cmp) []) (map-append (λ n. place nat_eq n met) (take i ns) (get_or ns i 0 ∷ []))
    ∙ fold-append (insert_key nat_cmp) [] (map (λ n. place nat_eq n met) (take i ns)) (place nat_eq (get_or ns i 0) met ∷ [])

pub none2 : (t : Table) (v : Marks) (K M text : List ℕ) → IsTable t → marks_of t.runs.items ≡ v → K ≡ sets_met t.runs.items → M ≡ texts_met t.sets.keys K → length M ≡ 0 → text ≡ [] → text ≡ written2 v
none2 t v K M text h e ek em z w = w ∙ nothing_written2 t h (ap length (sym (em ∙ ap (texts_met t.sets.keys) ek)) ∙ z) ∙ ap written2 e

pub none1 : (t : Table) (v : Marks) (K M text : List ℕ) → IsTable t → marks_of t.runs.items ≡ v → K ≡ sets_met t.runs.items → M ≡ texts_met t.sets.keys K → length M ≡ 0 → text ≡ [] → text ≡ written1 v
none1 t v K M text h e ek em z w = w ∙ nothing_written1 t h (ap length (sym (em ∙ ap (texts_met t.sets.keys) ek)) ∙ z) ∙ ap written1 e

pub some2 : (t : Table) (v : Marks) (K M x0 x1 x2 x3 x4 x5 : List ℕ) (m k r : ℕ) → IsTable t → marks_of t.runs.items ≡ v → K ≡ sets_met t.runs.items → M ≡ texts_met t.sets.keys K → (length M ≡ 0 → ⊥)
    → m ≡ length M → k ≡ length K → r ≡ length t.runs.items → x0 ≡ [] → x1 ≡ x0 ++ codes "resin2 " → x2 ≡ x1 ++ line (decimal m ∷ map decimal (k ∷ r ∷ [])) → x3 ≡ x2 ++ policies_text t.texts.keys M
    → x4 ≡ x3 ++ flat_map (set_text t.sets.keys M) K → x5 ≡ x4 ++ flat_map (run_text2 K) t.runs.items → x5 ≡ written2 v
some2 t v K M x0 x1 x2 x3 x4 x5 m k r h e ek em nz em' ek' er h0 h1 h2 h3 h4 h5 =
    h5 ∙ ap (λ x. x ++ flat_map (run_text2 K) t.runs.items) (h4 ∙ ap (λ x. x ++ flat_map (set_text t.sets.keys M) K) (h3 ∙ ap (λ x. x ++ policies_text t.texts.keys M)
    (h2 ∙ ap (λ x. x ++ line (decimal m ∷ map decimal (k ∷ r ∷ []))) (h1 ∙ ap (λ x. x ++ codes "resin2 ") h0)
    ∙ ap (λ n. codes "resin2 " ++ line (decimal n ∷ decimal k ∷ decimal r ∷ [])) em' ∙ ap (λ n. codes "resin2 " ++ line (decimal (length M) ∷ decimal n ∷ decimal r ∷ [])) ek'
    ∙ ap (λ n. codes "resin2 " ++ line (decimal (length M) ∷ decimal (length K) ∷ decimal n ∷ [])) er)))
    ∙ ap (λ y. f y M) ek ∙ ap (f (sets_met t.runs.items)) all
    ∙ whole2 t h (λ z. nz (ap length all ∙ z)) ∙ ap written2 e
  where
    f : List ℕ → List ℕ → List ℕ
    f K M = (((codes "resin2 " ++ line (decimal (length M) ∷ map decimal (length K ∷ length t.runs.items ∷ []))) ++ policies_text t.texts.keys M) ++ flat_map (set_text t.sets.keys M) K) ++ flat_map (run_text2 K) t.runs.items

    all : M ≡ texts_met t.sets.keys (sets_met t.runs.items)
    all = em ∙ ap (texts_met t.sets.keys) ek

pub some1 : (t : Table) (v : Marks) (K M x0 x1 x2 x3 x4 : List ℕ) (m r : ℕ) → IsTable t → marks_of t.runs.items ≡ v → K ≡ sets_met t.runs.items → M ≡ texts_met t.sets.keys K → (length M ≡ 0 → ⊥)
    → m ≡ length M → r ≡ length t.runs.items → x0 ≡ [] → x1 ≡ x0 ++ codes "resin1 " → x2 ≡ x1 ++ line (decimal m ∷ map decimal (r ∷ [])) → x3 ≡ x2 ++ policies_text t.texts.keys M
    → x4 ≡ x3 ++ flat_map (run_text1 t.sets.keys M) t.runs.items → x4 ≡ written1 v
some1 t v K M x0 x1 x2 x3 x4 m r h e ek em nz em' er h0 h1 h2 h3 h4 =
    h4 ∙ ap (λ x. x ++ flat_map (run_text1 t.sets.keys M) t.runs.items) (h3 ∙ ap (λ x. x ++ policies_text t.texts.keys M)
    (h2 ∙ ap (λ x. x ++ line (decimal m ∷ map decimal (r ∷ []))) (h1 ∙ ap (λ x. x ++ codes "resin1 ") h0)
    ∙ ap (λ n. codes "resin1 " ++ line (decimal n ∷ decimal r ∷ [])) em' ∙ ap (λ n. codes "resin1 " ++ line (decimal (length M) ∷ decimal n ∷ [])) er))
    ∙ ap f all
    ∙ whole1 t h (λ z. nz (ap length all ∙ z)) ∙ ap written1 e
  where
    f : List ℕ → List ℕ
    f M = ((codes "resin1 " ++ line (decimal (length M) ∷ map decimal (length t.runs.items ∷ []))) ++ policies_text t.texts.keys M) ++ flat_map (run_text1 t.sets.keys M) t.runs.items

    all : M ≡ texts_met t.sets.keys (sets_met t.runs.items)
    all = em ∙ ap (texts_met t.sets.keys) ek

-- ---- numbers of one more text
pub numbers_next : (old new : List (List ℕ)) (ns more : List ℕ) (n : ℕ) (items : List (List ℕ)) (i : ℕ) (t d : List ℕ) → i < length items → t ≡ get_or items i d → Grows old new → AreTextsAt old ns (take i items)
    → HasNumber new n t → more ≡ ns ++ n ∷ [] → AreTextsAt new more (take (i + 1) items)
numbers_next old new ns more n items i t d lt e g a h m =
    subst (λ ks. AreTextsAt new ks (take (i + 1) items)) (sym m)
    (subst (λ ts. AreTextsAt new (ns ++ n ∷ []) ts) (sym (take_next items i d lt))
    (related_push (HasNumber new) ns (take i items) n (get_or items i d) (texts_kept old new ns (take i items) g a) (subst (HasNumber new n) e h)))

-- ---- a run that isn't put
pub longer_none : (v : Marks) (n : ℕ) (s : TextSet) → n ≡ 0 → longer v (n, s) ≡ None
unfolding longer
longer_none v n s e = let a : nat_eq n 0 ≡ true = grind (arith, nat_tests) in ap (λ b. cond b None (cond (nat_lt (length v + n) (2 ^ 64)) (Some (v ++ replicate n s)) None)) a

pub longer_over : (v : Marks) (n t : ℕ) (s : TextSet) → length v ≡ t → (t + n < 2 ^ 64 → ⊥) → longer v (n, s) ≡ None
unfolding longer
longer_over v n t s e over = by (nat_eq n 0) (nat_lt (length v + n) (2 ^ 64)) refl
  where
    by : (a b : Bool) → nat_lt (length v + n) (2 ^ 64) ≡ b → cond a None (cond b (Some (v ++ replicate n s)) None) ≡ None
    by true b h = refl
    by false true h = absurd (over (let l : length v + n < 2 ^ 64 = grind (arith, nat_tests) in omega (arith, e, l)))
    by false false h = refl

pub longer_within : (v w : Marks) (n t : ℕ) (s : TextSet) → length v ≡ t → (n ≡ 0 → ⊥) → t + n < 2 ^ 64 → w ≡ v ++ replicate n s → longer v (n, s) ≡ Some w
longer_within v w zero t s e some lt is = absurd (some refl)
longer_within v w (suc n) t s e some lt is = longer_there v (suc n) s (omega arith) (omega (arith, e, lt)) ∙ ap Some (sym is)

-- ---- a sum that fits or doesn't
pub sum_over : (r : Option ℕ) (P : Type 0) (v : ℕ) → SomeIff r P v → is_some r ≡ false → P → ⊥
sum_over None P v h e = h
sum_over (Some x) P v h e = absurd (true≢false e)

pub sum_within : (r : Option ℕ) (P : Type 0) (v : ℕ) → SomeIff r P v → is_some r ≡ true → P
sum_within None P v h e = absurd (true≢false (sym e))
sum_within (Some x) P v h e = h.0

-- ---- the empty text
no_texts : (n : ℕ) → flat_map (λ (s : TextSet). s) (replicate n []) ≡ []
no_texts zero = refl
no_texts (suc n) = no_texts n

plain_text : (n : ℕ) → [] ≡ written2 (replicate n [])
plain_text n = sym (rw (no_texts n) refl)

pub plain_decoded : (n : ℕ) (x : List ℕ) → length x ≡ 0 → Spells x (replicate n []) × (length (replicate {A = TextSet} n []) ≡ n)
plain_decoded n [] e = (inr (plain_text n), length-replicate n [])
plain_decoded n (b ∷ x) e = absurd (omega arith)

-- ---- what is found in a text that isn't empty
some_bytes : (x : List ℕ) → 0 < length x → x ≢ []
some_bytes [] h e = omega arith
some_bytes (b ∷ x) h e = cc

pub none_read2 : (len : ℕ) (x : List ℕ) → 0 < length x → length x < 2 ^ 64 → read2 x ≡ None → DecodesBy written2 len x None
none_read2 len x some small e v h w l = none_some v (sym e ∙ read2_written x v small h w (some_bytes x some))

pub none_read1 : (len : ℕ) (x : List ℕ) → 0 < length x → length x < 2 ^ 64 → read1 x ≡ None → DecodesBy written1 len x None
none_read1 len x some small e v h w l = none_some v (sym e ∙ read1_written x v small h w (some_bytes x some))

pub other_length2 : (len : ℕ) (x : List ℕ) (w : Marks) → 0 < length x → length x < 2 ^ 64 → read2 x ≡ Some w → length w ≢ len → DecodesBy written2 len x None
other_length2 len x w some small e d v h y l = d (ap length (from_some w v (sym e ∙ read2_written x v small h y (some_bytes x some))) ∙ l)

pub other_length1 : (len : ℕ) (x : List ℕ) (w : Marks) → 0 < length x → length x < 2 ^ 64 → read1 x ≡ Some w → length w ≢ len → DecodesBy written1 len x None
other_length1 len x w some small e d v h y l = d (ap length (from_some w v (sym e ∙ read1_written x v small h y (some_bytes x some))) ∙ l)

pub other_text2 : (len : ℕ) (x text : List ℕ) (w : Marks) → 0 < length x → length x < 2 ^ 64 → read2 x ≡ Some w → text ≡ written2 w → text ≢ x → DecodesBy written2 len x None
other_text2 len x text w some small e t d v h y l = d (t ∙ ap written2 (from_some w v (sym e ∙ read2_written x v small h y (some_bytes x some))) ∙ sym y)

pub other_text1 : (len : ℕ) (x text : List ℕ) (w : Marks) → 0 < length x → length x < 2 ^ 64 → read1 x ≡ Some w → text ≡ written1 w → text ≢ x → DecodesBy written1 len x None
other_text1 len x text w some small e t d v h y l = d (t ∙ ap written1 (from_some w v (sym e ∙ read1_written x v small h y (some_bytes x some))) ∙ sym y)
