-- Ranges of places, said by the runs.
use Rattle.std.proofs.Common.{◌≡◌, ℕ, ◌<◌, ◌+◌, ◌-◌, Bool, true, false, cond, List, [], ◌∷◌, ◌++◌, refl, sym, ap, ◌∙◌, arith, zero, suc, length, take, drop, ⊎_elim, Some, None}
use Rattle.std.specs.Prelude.{not, replicate, position, option_map}
use Rattle.std.specs.List.{prefix_len}
use Rattle.std.proofs.lemmas.List.{take-append-drop, take_all}
use Rattle.std.proofs.lemmas.Bool.{cases_lt, cond-true, cond-false, lt-ltb, le-ltb}
use Rattle.resin_label.specs.Sets.{NumberSet}
use Rattle.resin_lstr.specs.declared.text.Run.{Run}
use Rattle.resin_lstr.specs.Texts.{first_range}
use Rattle.resin_lstr.specs.Runs.{spell, last_end, IsCoalesced}
use Rattle.resin_lstr.proofs.Spelled.{length_spell, rises, coalesced_take}
use Rattle.resin_lstr.proofs.Places.{spell_append}

-- ---- the longest front that passes a test
front_passes : (p : NumberSet → Bool) (m : ℕ) (s : NumberSet) (ss : List NumberSet) → p s ≡ true → prefix_len p (replicate m s ++ ss) ≡ m + prefix_len p ss
front_passes p zero s ss h = omega arith
front_passes p (suc m) s ss h = cond-true (p s) (1 + prefix_len p (replicate m s ++ ss)) 0 h ∙ omega (arith, front_passes p m s ss h)

front_stops : (p : NumberSet → Bool) (m : ℕ) (s : NumberSet) (ss : List NumberSet) → 0 < m → p s ≡ false → prefix_len p (replicate m s ++ ss) ≡ 0
front_stops p zero s ss up h = absurd (omega arith)
front_stops p (suc m) s ss up h = cond-false (p s) (1 + prefix_len p (replicate m s ++ ss)) 0 h

one_more_front : (from : ℕ) (r : Run) (rs : List Run) (n : ℕ) → last_end from (take (1 + n) (r ∷ rs)) ≡ last_end r.end (take n rs)
one_more_front from r rs n = let e : 1 + n ≡ suc n = omega arith in ap (λ m. last_end from (take m (r ∷ rs))) e

no_runs : (from n : ℕ) → last_end from (take n (let rs : List Run = [] in rs)) ≡ from
no_runs from zero = refl
no_runs from (suc n) = refl

-- places pass as far as their runs do
pub front_of_runs : (p : NumberSet → Bool) (from : ℕ) (rs : List Run) → IsCoalesced from rs → prefix_len p (spell from rs) + from ≡ last_end from (take (prefix_len (λ (r : Run). p r.set) rs) rs)
front_of_runs p from [] c = omega arith
front_of_runs p from (r ∷ rs) c =
    elim (p r.set) as (λ b. p r.set ≡ b → prefix_len p (spell from (r ∷ rs)) + from ≡ last_end from (take (cond b (1 + prefix_len (λ (q : Run). p q.set) rs) 0) (r ∷ rs))) [
      | true ↦ λ h.
          omega (
            arith,
            front_passes p (r.end - from) r.set (spell r.end rs) h,
            front_of_runs p r.end rs c.2,
            c.0,
            one_more_front from r rs (prefix_len (λ (q : Run). p q.set) rs),
          )
      | false ↦ λ h. omega (arith, front_stops p (r.end - from) r.set (spell r.end rs) (omega (arith, c.0)) h)
    ] refl

-- ---- ends of fronts
pub end_of_fronts : (rs : List Run) (from k m : ℕ) → last_end (last_end from (take k rs)) (take m (drop k rs)) ≡ last_end from (take (k + m) rs)
end_of_fronts rs from zero m = let e : m ≡ zero + m = omega arith in ap (λ n. last_end from (take n rs)) e
end_of_fronts [] from (suc k) m = no_runs from m ∙ sym (no_runs from (suc k + m))
end_of_fronts (r ∷ rs) from (suc k) m =
    let e : suc (k + m) ≡ suc k + m = omega arith in end_of_fronts rs r.end k m ∙ ap (λ n. last_end from (take n (r ∷ rs))) e

end_before : (from : ℕ) (rs : List Run) (k : ℕ) → IsCoalesced from rs → k < length rs → last_end from (take k rs) < last_end from rs
end_before from [] k c lt = absurd (omega arith)
end_before from (r ∷ rs) zero c lt = omega (arith, c.0, rises r.end rs c.2)
end_before from (r ∷ rs) (suc k) c lt = end_before r.end rs k c.2 (omega arith)

-- what the runs behind a front spell
pub spell_behind : (rs : List Run) (k : ℕ) → IsCoalesced 0 rs → drop (last_end 0 (take k rs)) (spell 0 rs) ≡ spell (last_end 0 (take k rs)) (drop k rs)
spell_behind rs k c =
    let long : length (spell 0 (take k rs)) ≡ last_end 0 (take k rs) = omega (arith, length_spell 0 (take k rs) (coalesced_take 0 k rs c)) in
    let rest = spell (last_end 0 (take k rs)) (drop k rs) in
    ap (drop (last_end 0 (take k rs))) (ap (spell 0) (sym (take-append-drop k rs)) ∙ spell_append 0 (take k rs) (drop k rs))
    ∙ ap (λ n. drop n (spell 0 (take k rs) ++ rest)) (sym long)
    ∙ drop_front (spell 0 (take k rs)) rest
  where
    drop_front : (xs ys : List NumberSet) → drop (length xs) (xs ++ ys) ≡ ys
    drop_front [] ys = refl
    drop_front (x ∷ xs) ys = drop_front xs ys

pub coalesced_behind : (from k : ℕ) (rs : List Run) → IsCoalesced from rs → IsCoalesced (last_end from (take k rs)) (drop k rs)
coalesced_behind from zero rs c = c
coalesced_behind from (suc k) [] c = tt
coalesced_behind from (suc k) (r ∷ rs) c = coalesced_behind r.end k rs c.2

module _ (p : NumberSet → Bool) (rs : List Run) (c : IsCoalesced 0 rs) where
  abbrev of_run : Run → Bool
  of_run r = p r.set

  abbrev first : ℕ
  first = prefix_len (λ (r : Run). not (p r.set)) rs

  first_place : prefix_len (λ s. not (p s)) (spell 0 rs) ≡ last_end 0 (take (prefix_len (λ (r : Run). not (p r.set)) rs) rs)
  first_place = omega (arith, front_of_runs (λ s. not (p s)) 0 rs c)

  whole : length (spell 0 rs) ≡ last_end 0 rs
  whole = omega (arith, length_spell 0 rs c)

  -- no run passes
  pub range_none : position (λ (r : Run). p r.set) rs ≡ None → None ≡ first_range p (spell 0 rs)
  range_none h = ⊎_elim
      (λ lt. absurd (none_some (sym h ∙ cond-true _ (Some first) None (lt-ltb first (length rs) lt))))
      (λ ge. let all : last_end 0 (take first rs) ≡ last_end 0 rs = ap (last_end 0) (take_all first rs ge) in
      sym (ap (option_map (λ start. (start, start + prefix_len p (drop start (spell 0 rs)))))
      (cond-false _ (Some (prefix_len (λ s. not (p s)) (spell 0 rs))) None (le-ltb (prefix_len (λ s. not (p s)) (spell 0 rs)) (length (spell 0 rs)) (omega (arith, all, first_place, whole))))))
      (cases_lt first (length rs))
    where
      none_some : {n : ℕ} → None ≡ Some n → ⊥
      none_some e = cc

  -- the run at k is the first that passes, and m of them pass
  pub range_some : (k m : ℕ) → position (λ (r : Run). p r.set) rs ≡ Some k → m ≡ prefix_len (λ (r : Run). p r.set) (drop k rs) → Some (last_end 0 (take k rs), last_end 0 (take (k + m) rs)) ≡ first_range p (spell 0 rs)
  range_some k m h is = ⊎_elim
      (λ lt. let same : first ≡ k = some_same (sym (cond-true _ (Some first) None (lt-ltb first (length rs) lt)) ∙ h) in
      sym (ap (option_map (λ start. (start, start + prefix_len p (drop start (spell 0 rs)))))
      (cond-true _ (Some (prefix_len (λ s. not (p s)) (spell 0 rs))) None (lt-ltb (prefix_len (λ s. not (p s)) (spell 0 rs)) (length (spell 0 rs)) (omega (arith, end_before 0 rs first c lt, first_place, whole)))
      ∙ ap Some (first_place ∙ ap (λ n. last_end 0 (take n rs)) same))
      ∙ ap (λ n. Some (last_end 0 (take k rs), n)) behind))
      (λ ge. absurd (some_none (sym h ∙ cond-false _ (Some first) None (le-ltb first (length rs) ge))))
      (cases_lt first (length rs))
    where
      some_none : {n : ℕ} → Some n ≡ None → ⊥
      some_none e = cc

      some_same : {n j : ℕ} → Some n ≡ Some j → n ≡ j
      some_same e = cc

      start : ℕ
      start = last_end 0 (take k rs)

      behind : last_end 0 (take k rs) + prefix_len p (drop (last_end 0 (take k rs)) (spell 0 rs)) ≡ last_end 0 (take (k + m) rs)
      behind =
          let fronts = front_of_runs p (last_end 0 (take k rs)) (drop k rs) (coalesced_behind 0 k rs c) in
          omega (
            arith,
            ap (prefix_len p) (spell_behind rs k c),
            fronts,
            ap (λ n. last_end (last_end 0 (take k rs)) (take n (drop k rs))) (sym is),
            end_of_fronts rs 0 k m,
          )
