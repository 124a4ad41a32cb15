-- What runs spell, at their ends and for a part.
use Rattle.std.proofs.Common.{◌≡◌, ℕ, ◌<◌, ◌≤◌, ◌+◌, ◌-◌, List, [], ◌∷◌, ◌++◌, refl, sym, ap, subst, ◌∙◌, arith, length, ⊎_elim, zero, suc, length-drop, take, drop, get_or, append_assoc, append-nil, length-append}
use Rattle.std.specs.Prelude.{map, replicate, min}
use Rattle.std.proofs.lemmas.List.{length-replicate, take-replicate, drop-replicate, replicate-append-replicate, take_more, take_all, map-append, take-append-le, drop-append-le, drop_all}
use Rattle.std.proofs.Math.Seq.{take-append-add, drop-append-add}
use Rattle.std.proofs.lemmas.Bool.{cases_lt}
use Rattle.resin_lstr.specs.declared.text.Run.{Run}
use Rattle.resin_label.specs.Sets.{NumberSet}
use Rattle.resin_lstr.specs.Runs.{spell, last_end, Differs, IsCoalesced, EndsWith}

-- ---- one more run
pub last_end_push : (from : ℕ) (rs : List Run) (r : Run) → last_end from (rs ++ r ∷ []) ≡ r.end
last_end_push from [] r = refl
last_end_push from (q ∷ rs) r = last_end_push q.end rs r

pub spell_push : (from : ℕ) (rs : List Run) (r : Run) → spell from (rs ++ r ∷ []) ≡ spell from rs ++ replicate (r.end - last_end from rs) r.set
spell_push from [] r = append-nil _
spell_push from (q ∷ rs) r = ap (λ ss. replicate (q.end - from) q.set ++ ss) (spell_push q.end rs r) ∙ sym (append_assoc (replicate (q.end - from) q.set) (spell q.end rs) (replicate (r.end - last_end q.end rs) r.set))

pub ends_push : (s : NumberSet) (rs : List Run) (r : Run) → (EndsWith s (rs ++ r ∷ []) → r.set ≡ s) × (r.set ≡ s → EndsWith s (rs ++ r ∷ []))
ends_push s [] r = (λ h. h, λ h. h)
ends_push s (q ∷ []) r = (λ h. h, λ h. h)
ends_push s (q ∷ p ∷ rs) r = ends_push s (p ∷ rs) r

differs_push : (s : NumberSet) (q : Run) (rs : List Run) (r : Run) → Differs s (q ∷ rs) → Differs s ((q ∷ rs) ++ r ∷ [])
differs_push s q rs r h = h

pub coalesced_push : (from : ℕ) (rs : List Run) (r : Run) → IsCoalesced from rs → last_end from rs < r.end → (EndsWith r.set rs → ⊥) → IsCoalesced from (rs ++ r ∷ [])
coalesced_push from [] r c l d = (l, tt, tt)
coalesced_push from (q ∷ []) r c l d = (c.0, d, (l, tt, tt))
coalesced_push from (q ∷ p ∷ rs) r c l d = (c.0, c.1, coalesced_push q.end (p ∷ rs) r c.2 l d)

-- the same, taken apart
pub coalesced_front : (from : ℕ) (rs : List Run) (r : Run) → IsCoalesced from (rs ++ r ∷ []) → IsCoalesced from rs × (last_end from rs < r.end) × (EndsWith r.set rs → ⊥)
coalesced_front from [] r c = (tt, c.0, λ h. h)
coalesced_front from (q ∷ []) r c = ((c.0, tt, tt), c.2.0, c.1)
coalesced_front from (q ∷ p ∷ rs) r c = let i = coalesced_front q.end (p ∷ rs) r c.2 in ((c.0, c.1, i.0), i.1, i.2)

-- the last run goes on to a later end
pub coalesced_longer : (from : ℕ) (rs : List Run) (r q : Run) → IsCoalesced from (rs ++ r ∷ []) → r.set ≡ q.set → r.end ≤ q.end → IsCoalesced from (rs ++ q ∷ [])
coalesced_longer from rs r q c same later =
    let i = coalesced_front from rs r c in
    coalesced_push from rs q i.0 (omega (arith, i.1)) (λ h. i.2 (subst (λ (s : NumberSet). EndsWith s rs) (sym same) h))

pub spell_longer : (from : ℕ) (rs : List Run) (r q : Run) → last_end from rs < r.end → r.set ≡ q.set → r.end ≤ q.end → spell from (rs ++ q ∷ []) ≡ spell from (rs ++ r ∷ []) ++ replicate (q.end - r.end) q.set
spell_longer from rs r q rises same later =
    let sum : q.end - last_end from rs ≡ (r.end - last_end from rs) + (q.end - r.end) = omega arith in
    spell_push from rs q
    ∙ ap (λ ss. spell from rs ++ ss) (ap (λ n. replicate n q.set) sum ∙ sym (replicate-append-replicate (r.end - last_end from rs) (q.end - r.end) q.set))
    ∙ sym (append_assoc (spell from rs) (replicate (r.end - last_end from rs) q.set) (replicate (q.end - r.end) q.set))
    ∙ ap (λ ss. ss ++ replicate (q.end - r.end) q.set) (ap (λ s. spell from rs ++ replicate (r.end - last_end from rs) s) (sym same) ∙ sym (spell_push from rs r))

-- ---- lengths
pub rises : (from : ℕ) (rs : List Run) → IsCoalesced from rs → from ≤ last_end from rs
rises from [] c = omega arith
rises from (r ∷ rs) c = omega (arith, rises r.end rs c.2, c.0)

pub length_spell : (from : ℕ) (rs : List Run) → IsCoalesced from rs → length (spell from rs) + from ≡ last_end from rs
length_spell from [] c = omega arith
length_spell from (r ∷ rs) c =
    omega (arith, length-append (replicate (r.end - from) r.set) (spell r.end rs), length-replicate (r.end - from) r.set, length_spell r.end rs c.2, c.0, rises r.end rs c.2)

-- ---- the last run
pub front_and_last : {X : Type 0} (xs : List X) (n : ℕ) (d : X) → n + 1 ≡ length xs → xs ≡ take n xs ++ get_or xs n d ∷ []
front_and_last xs n d e = sym (take_all (n + 1) xs (omega arith)) ∙ take_more xs n d (omega arith)

pub last_end_at : (rs : List Run) (n : ℕ) (d : Run) → n + 1 ≡ length rs → last_end 0 rs ≡ (get_or rs n d).end
last_end_at rs n d e = ap (last_end 0) (front_and_last rs n d e) ∙ last_end_push 0 (take n rs) (get_or rs n d)

pub ends_at : (s : NumberSet) (rs : List Run) (n : ℕ) (d : Run) → n + 1 ≡ length rs → (EndsWith s rs → (get_or rs n d).set ≡ s) × ((get_or rs n d).set ≡ s → EndsWith s rs)
ends_at s rs n d e =
    let both = ends_push s (take n rs) (get_or rs n d) in
    let split = front_and_last rs n d e in
    (λ h. both.0 (subst (EndsWith s) split h), λ h. subst (EndsWith s) (sym split) (both.1 h))

ends_some : (s : NumberSet) (rs : List Run) → EndsWith s rs → 0 < length rs
ends_some s [] h = absurd h
ends_some s (r ∷ rs) h = omega arith

-- the last run of the same set goes on
module _ (rs : List Run) (k : ℕ) (q : Run) (c : IsCoalesced 0 rs) (h : EndsWith q.set rs) (later : last_end 0 rs ≤ q.end) (before : k ≡ length rs - 1) where
  at_last : k + 1 ≡ length rs
  at_last = omega (arith, ends_some q.set rs h)

  abbrev last : Run
  last = get_or rs k q

  split : rs ≡ take k rs ++ last ∷ []
  split = front_and_last rs k q at_last

  same : last.set ≡ q.set
  same = (ends_at q.set rs k q at_last).0 h

  ends : last_end 0 rs ≡ last.end
  ends = last_end_at rs k q at_last

  pub joined_coalesced : IsCoalesced 0 (take k rs ++ q ∷ [])
  joined_coalesced = coalesced_longer 0 (take k rs) last q (subst (IsCoalesced 0) split c) same (omega (arith, ends))

  pub joined_spell : spell 0 (take k rs ++ q ∷ []) ≡ spell 0 rs ++ replicate (q.end - last_end 0 rs) q.set
  joined_spell =
      spell_longer 0 (take k rs) last q (coalesced_front 0 (take k rs) last (subst (IsCoalesced 0) split c)).1 same (omega (arith, ends))
      ∙ ap (λ ss. ss ++ replicate (q.end - last.end) q.set) (sym (ap (spell 0) split)) ∙ ap (λ e. spell 0 rs ++ replicate (q.end - e) q.set) (sym ends)

-- ---- a front of the runs
pub coalesced_take : (from k : ℕ) (rs : List Run) → IsCoalesced from rs → IsCoalesced from (take k rs)
coalesced_take from zero rs c = tt
coalesced_take from (suc k) [] c = tt
coalesced_take from (suc zero) (r ∷ rs) c = (c.0, tt, tt)
coalesced_take from (suc (suc k)) (r ∷ []) c = (c.0, tt, tt)
coalesced_take from (suc (suc k)) (r ∷ q ∷ rs) c = (c.0, c.1, coalesced_take r.end (suc k) (q ∷ rs) c.2)

module _ (rs : List Run) (k : ℕ) (d : Run) (c : IsCoalesced 0 rs) (lt : k < length rs) where
  one_more : take (k + 1) rs ≡ take k rs ++ get_or rs k d ∷ []
  one_more = take_more rs k d lt

  pub end_more : last_end 0 (take (k + 1) rs) ≡ (get_or rs k d).end
  end_more = ap (last_end 0) one_more ∙ last_end_push 0 (take k rs) (get_or rs k d)

  pub rises_more : last_end 0 (take k rs) < (get_or rs k d).end
  rises_more = (coalesced_front 0 (take k rs) (get_or rs k d) (subst (IsCoalesced 0) one_more (coalesced_take 0 (k + 1) rs c))).1

  pub spell_more : spell 0 (take (k + 1) rs) ≡ spell 0 (take k rs) ++ replicate ((get_or rs k d).end - last_end 0 (take k rs)) (get_or rs k d).set
  spell_more = ap (spell 0) one_more ∙ spell_push 0 (take k rs) (get_or rs k d)

-- ---- a part of a list that goes on
module _ {X : Type 0} where
  take-append : (n : ℕ) (xs ys : List X) → take n (xs ++ ys) ≡ take n xs ++ take (n - length xs) ys
  take-append n xs ys = ⊎_elim
      (λ lt. let e : n - length xs ≡ 0 = omega arith in take-append-le n xs ys (omega arith) ∙ sym (append-nil (take n xs)) ∙ sym (ap (λ m. take n xs ++ take m ys) e))
      (λ ge. let e : n ≡ length xs + (n - length xs) = omega arith in
      ap (λ m. take m (xs ++ ys)) e ∙ take-append-add xs ys (n - length xs) ∙ ap (λ zs. zs ++ take (n - length xs) ys) (sym (take_all n xs ge)))
      (cases_lt n (length xs))

  drop-append : (n : ℕ) (xs ys : List X) → drop n (xs ++ ys) ≡ drop n xs ++ drop (n - length xs) ys
  drop-append n xs ys = ⊎_elim
      (λ lt. let e : n - length xs ≡ 0 = omega arith in drop-append-le n xs ys (omega arith) ∙ sym (ap (λ m. drop n xs ++ drop m ys) e))
      (λ ge. let e : n ≡ length xs + (n - length xs) = omega arith in
      ap (λ m. drop m (xs ++ ys)) e ∙ drop-append-add xs ys (n - length xs) ∙ ap (λ zs. zs ++ drop (n - length xs) ys) (sym (drop_all n xs ge)))
      (cases_lt n (length xs))

  take_of_replicate : (k n : ℕ) (s : X) → take k (replicate n s) ≡ replicate (min k n) s
  take_of_replicate k n s = ⊎_elim
      (λ lt. let e : min k n ≡ k = omega arith in take-replicate k n s (omega arith) ∙ sym (ap (λ m. replicate m s) e))
      (λ ge. let e : min k n ≡ n = omega arith in take_all k (replicate n s) (omega (arith, length-replicate n s)) ∙ sym (ap (λ m. replicate m s) e))
      (cases_lt k n)

  -- what one more repeated element adds to the part from lo to hi
  pub part_more : (xs : List X) (m : ℕ) (s : X) (lo hi c : ℕ) → lo ≤ hi → c ≡ (min (length xs + m) hi - lo) - (min (length xs) hi - lo) → take (hi - lo) (drop lo (xs ++ replicate m s)) ≡ take (hi - lo) (drop lo xs) ++ replicate c s
  part_more xs m s lo hi c le e =
      let count : min ((hi - lo) - (length xs - lo)) (m - (lo - length xs)) ≡ c = omega arith in
      ap (take (hi - lo)) (drop-append lo xs (replicate m s) ∙ ap (λ zs. drop lo xs ++ zs) (drop-replicate (lo - length xs) m s))
      ∙ take-append (hi - lo) (drop lo xs) (replicate (m - (lo - length xs)) s)
      ∙ ap (λ zs. take (hi - lo) (drop lo xs) ++ zs)
      (take_of_replicate ((hi - lo) - length (drop lo xs)) (m - (lo - length xs)) s
      ∙ ap (λ l. replicate (min ((hi - lo) - l) (m - (lo - length xs))) s) (length-drop lo xs)
      ∙ ap (λ j. replicate j s) count)

map_replicate : {X Y : Type 0} (f : X → Y) (n : ℕ) (x : X) → map f (replicate n x) ≡ replicate n (f x)
map_replicate f zero x = refl
map_replicate f (suc n) x = ap (λ ys. f x ∷ ys) (map_replicate f n x)

-- ---- steps of loops over runs
module _ (rs : List Run) (k : ℕ) (d : Run) (c : IsCoalesced 0 rs) (lt : k < length rs) where
  abbrev run : Run
  run = get_or rs k d

  pub appended : (before cur new : List NumberSet) (lo hi count : ℕ) → lo ≤ hi → count ≡ (min run.end hi - lo) - (min (last_end 0 (take k rs)) hi - lo) → cur ≡ before ++ take (hi - lo) (drop lo (spell 0 (take k rs))) → new ≡ cur ++ replicate count run.set → new ≡ before ++ take (hi - lo) (drop lo (spell 0 (take (k + 1) rs)))
  appended before cur new lo hi count le is cur_is new_is =
      let long : length (spell 0 (take k rs)) ≡ last_end 0 (take k rs) = omega (arith, length_spell 0 (take k rs) (coalesced_take 0 k rs c)) in
      let up : last_end 0 (take k rs) < run.end = rises_more rs k d c lt in
      let whole : length (spell 0 (take k rs)) + (run.end - last_end 0 (take k rs)) ≡ run.end = omega arith in
      let same : count ≡ (min (length (spell 0 (take k rs)) + (run.end - last_end 0 (take k rs))) hi - lo) - (min (length (spell 0 (take k rs))) hi - lo)
      = is ∙ sym (ap (λ n. (min n hi - lo) - (min (length (spell 0 (take k rs))) hi - lo)) whole ∙ ap (λ n. (min run.end hi - lo) - (min n hi - lo)) long) in
      new_is ∙ ap (λ zs. zs ++ replicate count run.set) cur_is ∙ append_assoc before (take (hi - lo) (drop lo (spell 0 (take k rs)))) (replicate count run.set)
      ∙ ap (λ zs. before ++ zs) (sym (part_more (spell 0 (take k rs)) (run.end - last_end 0 (take k rs)) run.set lo hi count le same) ∙ ap (λ zs. take (hi - lo) (drop lo zs)) (sym (spell_more rs k d c lt)))

  pub mapped : (f : NumberSet → NumberSet) (cur new : List NumberSet) (s : NumberSet) → s ≡ f run.set → cur ≡ map f (spell 0 (take k rs)) → new ≡ cur ++ replicate (run.end - last_end 0 (take k rs)) s → new ≡ map f (spell 0 (take (k + 1) rs))
  mapped f cur new s is cur_is new_is =
      new_is ∙ ap (λ zs. zs ++ replicate (run.end - last_end 0 (take k rs)) s) cur_is
      ∙ ap (λ t. map f (spell 0 (take k rs)) ++ replicate (run.end - last_end 0 (take k rs)) t) is
      ∙ sym (ap (map f) (spell_more rs k d c lt) ∙ map-append f (spell 0 (take k rs)) (replicate (run.end - last_end 0 (take k rs)) run.set) ∙ ap (λ zs. map f (spell 0 (take k rs)) ++ zs) (map_replicate f (run.end - last_end 0 (take k rs)) run.set))
