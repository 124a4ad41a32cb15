-- Runs behind runs.
use Rattle.std.proofs.Common.{◌≡◌, ℕ, ◌<◌, ◌≤◌, ◌+◌, ◌-◌, List, [], ◌∷◌, ◌++◌, refl, sym, ap, subst, ◌∙◌, arith, length, take, get_or, append_assoc, append-nil, length-append}
use Rattle.std.specs.Prelude.{map, replicate}
use Rattle.std.proofs.lemmas.List.{replicate-append-replicate}
use Rattle.resin_lstr.specs.declared.text.Run.{Run}
use Rattle.resin_label.specs.Sets.{NumberSet}
use Rattle.resin_lstr.specs.Texts.{LONGEST}
use Rattle.resin_lstr.specs.Runs.{spell, last_end, shifted, text_of, Differs, IsCoalesced, EndsWith, Meet, AreRunsOf, AreJoined}
use Rattle.resin_lstr.proofs.Spelled.{coalesced_front, front_and_last, last_end_at, ends_at, spell_push}
use Rattle.resin_lstr.proofs.Places.{spell_append}
use Rattle.resin_lstr.proofs.Zips.{longer_text}

-- ---- runs that are later
spell_later : (by from : ℕ) (rs : List Run) → spell (by + from) (shifted by rs) ≡ spell from rs
spell_later by from [] = refl
spell_later by from (r ∷ rs) =
    let e : (by + r.end) - (by + from) ≡ r.end - from = omega arith in
    ap (λ n. replicate n r.set ++ spell (by + r.end) (shifted by rs)) e ∙ ap (λ ss. replicate (r.end - from) r.set ++ ss) (spell_later by r.end rs)

last_end_later : (by from : ℕ) (rs : List Run) → last_end (by + from) (shifted by rs) ≡ by + last_end from rs
last_end_later by from [] = refl
last_end_later by from (r ∷ rs) = last_end_later by r.end rs

differs_later : (by : ℕ) (s : NumberSet) (rs : List Run) → Differs s rs → Differs s (shifted by rs)
differs_later by s [] d = tt
differs_later by s (r ∷ rs) d = d

coalesced_later : (by from : ℕ) (rs : List Run) → IsCoalesced from rs → IsCoalesced (by + from) (shifted by rs)
coalesced_later by from [] c = tt
coalesced_later by from (r ∷ rs) c = (omega (arith, c.0), differs_later by r.set rs c.1, coalesced_later by r.end rs c.2)

-- ---- runs behind others
last_end_append : (from : ℕ) (rs qs : List Run) → last_end from (rs ++ qs) ≡ last_end (last_end from rs) qs
last_end_append from [] qs = refl
last_end_append from (r ∷ rs) qs = last_end_append r.end rs qs

coalesced_append : (from : ℕ) (rs qs : List Run) → IsCoalesced from rs → IsCoalesced (last_end from rs) qs → (Meet rs qs → ⊥) → IsCoalesced from (rs ++ qs)
coalesced_append from [] qs c d apart = d
coalesced_append from (r ∷ []) [] c d apart = c
coalesced_append from (r ∷ []) (q ∷ qs) c d apart = (c.0, apart, d)
coalesced_append from (r ∷ p ∷ rs) [] c d apart = (c.0, c.1, coalesced_append r.end (p ∷ rs) [] c.2 d (λ h. h))
coalesced_append from (r ∷ p ∷ rs) (q ∷ qs) c d apart = (c.0, c.1, coalesced_append r.end (p ∷ rs) (q ∷ qs) c.2 d apart)

meet_later : (by : ℕ) (rs qs : List Run) → Meet rs (shifted by qs) → Meet rs qs
meet_later by rs [] h = h
meet_later by rs (q ∷ qs) h = h

module _ (rs qs : List Run) (by : ℕ) (c : IsCoalesced 0 rs) (d : IsCoalesced 0 qs) (is : by ≡ last_end 0 rs) where
  none : by + 0 ≡ last_end 0 rs
  none = omega (arith, is)

  coalesced_tail : IsCoalesced (last_end 0 rs) (shifted by qs)
  coalesced_tail = subst (λ (n : ℕ). IsCoalesced n (shifted by qs)) none (coalesced_later by 0 qs d)

  spell_tail : spell (last_end 0 rs) (shifted by qs) ≡ spell 0 qs
  spell_tail = ap (λ n. spell n (shifted by qs)) (sym none) ∙ spell_later by 0 qs

  ends_tail : last_end (last_end 0 rs) (shifted by qs) ≡ last_end 0 rs + last_end 0 qs
  ends_tail = ap (λ n. last_end n (shifted by qs)) (sym none) ∙ last_end_later by 0 qs ∙ ap (λ n. n + last_end 0 qs) is

  -- runs whose sets differ where they meet
  pub joined_apart : (Meet rs qs → ⊥) → AreJoined rs qs (rs ++ shifted by qs)
  joined_apart apart = record {
    coalesced = coalesced_append 0 rs (shifted by qs) c coalesced_tail (λ h. apart (meet_later by rs qs h));
    spelled = spell_append 0 rs (shifted by qs) ∙ ap (λ ss. spell 0 rs ++ ss) spell_tail;
    ends = last_end_append 0 rs (shifted by qs) ∙ ends_tail;
  }

-- ---- the first of the runs behind takes the place of the last one before
sooner : (n m : ℕ) (q : Run) (qs : List Run) → n ≤ m → IsCoalesced m (q ∷ qs) → IsCoalesced n (q ∷ qs)
sooner n m q qs le c = (omega (arith, le, c.0), c.1, c.2)

longer_spell : (n m : ℕ) (q : Run) (qs : List Run) → n ≤ m → m ≤ q.end → spell n (q ∷ qs) ≡ replicate (m - n) q.set ++ spell m (q ∷ qs)
longer_spell n m q qs le later =
    let sum : q.end - n ≡ (m - n) + (q.end - m) = omega arith in
    ap (λ k. replicate k q.set ++ spell q.end qs) sum
    ∙ ap (λ ss. ss ++ spell q.end qs) (sym (replicate-append-replicate (m - n) (q.end - m) q.set))
    ∙ append_assoc (replicate (m - n) q.set) (replicate (q.end - m) q.set) (spell q.end qs)

ends_some : (s : NumberSet) (rs : List Run) → EndsWith s rs → 0 < length rs
ends_some s [] h = absurd h
ends_some s (r ∷ rs) h = omega arith

module _ (rs : List Run) (q : Run) (qs : List Run) (c : IsCoalesced 0 rs) (d : IsCoalesced (last_end 0 rs) (q ∷ qs)) (h : EndsWith q.set rs) where
  abbrev k : ℕ
  k = length rs - 1

  abbrev last : Run
  last = get_or rs k q

  at_last : k + 1 ≡ length rs
  at_last = omega (arith, ends_some q.set rs h)

  split : rs ≡ take k rs ++ last ∷ []
  split = front_and_last rs k q at_last

  same : last.set ≡ q.set
  same = (ends_at q.set rs k q at_last).0 h

  end_is : last_end 0 rs ≡ last.end
  end_is = last_end_at rs k q at_last

  before : IsCoalesced 0 (take k rs) × (last_end 0 (take k rs) < last.end) × (EndsWith last.set (take k rs) → ⊥)
  before = coalesced_front 0 (take k rs) last (subst (IsCoalesced 0) split c)

  below : last_end 0 (take k rs) ≤ last_end 0 rs
  below = omega (arith, before.1, end_is)

  pub met_coalesced : IsCoalesced 0 (take k rs ++ q ∷ qs)
  met_coalesced =
      coalesced_append 0 (take k rs) (q ∷ qs) before.0 (sooner (last_end 0 (take k rs)) (last_end 0 rs) q qs below d)
      (λ e. before.2 (subst (λ (s : NumberSet). EndsWith s (take k rs)) (sym same) e))

  pub met_spell : spell 0 (take k rs ++ q ∷ qs) ≡ spell 0 rs ++ spell (last_end 0 rs) (q ∷ qs)
  met_spell =
      spell_append 0 (take k rs) (q ∷ qs)
      ∙ ap (λ ss. spell 0 (take k rs) ++ ss) (longer_spell (last_end 0 (take k rs)) (last_end 0 rs) q qs below (omega (arith, d.0)))
      ∙ sym (append_assoc (spell 0 (take k rs)) (replicate (last_end 0 rs - last_end 0 (take k rs)) q.set) (spell (last_end 0 rs) (q ∷ qs)))
      ∙ ap (λ ss. ss ++ spell (last_end 0 rs) (q ∷ qs))
      (ap (λ s. spell 0 (take k rs) ++ replicate (last_end 0 rs - last_end 0 (take k rs)) s) (sym same)
      ∙ ap (λ n. spell 0 (take k rs) ++ replicate (n - last_end 0 (take k rs)) last.set) end_is
      ∙ sym (spell_push 0 (take k rs) last) ∙ ap (spell 0) (sym split))

  pub met_ends : last_end 0 (take k rs ++ q ∷ qs) ≡ last_end (last_end 0 rs) (q ∷ qs)
  met_ends = last_end_append 0 (take k rs) (q ∷ qs)

-- runs whose sets are the same where they meet
pub joined_met : (rs qs : List Run) (by : ℕ) (c : IsCoalesced 0 rs) (d : IsCoalesced 0 qs) (is : by ≡ last_end 0 rs) → Meet rs qs → AreJoined rs qs (take (length rs - 1) rs ++ shifted by qs)
joined_met rs [] by c d is h = absurd h
joined_met rs (q ∷ qs) by c d is h =
    let first : Run = record { end = by + q.end; set = q.set } in
    let tail = coalesced_tail rs (q ∷ qs) by c d is in record {
      coalesced = met_coalesced rs first (shifted by qs) c tail h;
      spelled = met_spell rs first (shifted by qs) c tail h ∙ ap (λ ss. spell 0 rs ++ ss) (spell_tail rs (q ∷ qs) by c d is);
      ends = met_ends rs first (shifted by qs) c tail h ∙ ends_tail rs (q ∷ qs) by c d is;
    }

-- the only run goes on
pub joined_alone : (r : Run) (more : List Run) (q : Run) → IsCoalesced 0 (r ∷ []) → 1 ≤ length more → length more < 2 → q ≡ get_or more 0 q → r.set ≡ q.set → AreJoined (r ∷ []) more (record { end = r.end + q.end; set = r.set } ∷ [])
joined_alone r [] q c some few is same = absurd (omega (arith, some))
joined_alone r (p ∷ o ∷ more) q c some few is same = absurd (omega (arith, few))
joined_alone r (p ∷ []) q c some few is same =
    let e : q.end ≡ p.end = ap (λ (x : Run). x.end) is in
    let sum : (r.end + q.end) - 0 ≡ (r.end - 0) + (p.end - 0) = omega (arith, e) in record {
      coalesced = (omega (arith, c.0), tt, tt);
      spelled =
          append-nil (replicate ((r.end + q.end) - 0) r.set) ∙ ap (λ n. replicate n r.set) sum
          ∙ sym (replicate-append-replicate (r.end - 0) (p.end - 0) r.set)
          ∙ ap (λ s. replicate (r.end - 0) r.set ++ replicate (p.end - 0) s) (same ∙ ap (λ (x : Run). x.set) is)
          ∙ ap (λ ss. ss ++ replicate (p.end - 0) p.set) (sym (append-nil (replicate (r.end - 0) r.set)))
          ∙ ap (λ ss. (replicate (r.end - 0) r.set ++ []) ++ ss) (sym (append-nil (replicate (p.end - 0) p.set)));
      ends = ap (λ n. r.end + n) e;
    }

-- texts behind texts
module _ (bs cs : List ℕ) (rs qs new : List Run) (are : AreRunsOf (length bs) rs) (more : AreRunsOf (length cs) qs) (joined : AreJoined rs qs new) where
  pub joined_runs : length bs + length cs ≤ LONGEST → AreRunsOf (length (bs ++ cs)) new
  joined_runs le = record {
    coalesced = joined.coalesced;
    last = omega (arith, joined.ends, are.last, more.last, length-append bs cs);
    short = omega (arith, length-append bs cs);
  }

  pub joined_text : text_of (bs ++ cs) new ≡ text_of bs rs ++ text_of cs qs
  joined_text = longer_text bs rs new are cs (spell 0 qs) joined.spelled
