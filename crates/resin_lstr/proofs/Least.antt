-- Coalesced runs are the fewest that spell their list.
use Rattle.std.proofs.Common.{◌≡◌, ℕ, ◌<◌, ◌≤◌, ◌+◌, ◌-◌, List, [], ◌∷◌, ◌++◌, refl, sym, ap, subst, ◌∙◌, arith, length, ⊎_elim, get_or, append_assoc, length-append}
use Rattle.std.specs.Prelude.{replicate}
use Rattle.std.proofs.lemmas.List.{length-replicate, replicate-append-replicate, append_cancel_left, get_or_append_left, get_or-replicate}
use Rattle.std.proofs.lemmas.Bool.{cases_order}
use Rattle.resin_lstr.specs.declared.text.Run.{Run}
use Rattle.resin_label.specs.Sets.{NumberSet, empty}
use Rattle.resin_lstr.specs.Runs.{spell, IsCoalesced, IsRising, IsLeastCount, Differs}

-- a first run cut in two
cut : (from m : ℕ) (r : Run) (rs : List Run) → from ≤ m → m ≤ r.end → spell from (r ∷ rs) ≡ replicate (m - from) r.set ++ spell m (r ∷ rs)
cut from m r rs lo hi =
    let sum : r.end - from ≡ (m - from) + (r.end - m) = omega arith in
    ap (λ n. replicate n r.set ++ spell r.end rs) sum
    ∙ ap (λ ss. ss ++ spell r.end rs) (sym (replicate-append-replicate (m - from) (r.end - m) r.set))
    ∙ append_assoc (replicate (m - from) r.set) (replicate (r.end - m) r.set) (spell r.end rs)

-- the first item
first_item : (from : ℕ) (r : Run) (rs : List Run) (d : NumberSet) → from < r.end → get_or (spell from (r ∷ rs)) 0 d ≡ r.set
first_item from r rs d lt =
    get_or_append_left (replicate (r.end - from) r.set) (spell r.end rs) d 0 (omega (arith, length-replicate (r.end - from) r.set))
    ∙ get_or-replicate (r.end - from) 0 r.set d (omega arith)

same_first : (from : ℕ) (r q : Run) (rs qs : List Run) → from < r.end → from < q.end → spell from (r ∷ rs) ≡ spell from (q ∷ qs) → r.set ≡ q.set
same_first from r q rs qs a b e = sym (first_item from r rs empty a) ∙ ap (λ ss. get_or ss 0 empty) e ∙ first_item from q qs empty b

-- what is left behind the place m
left_over : (from m : ℕ) (r q : Run) (rs qs : List Run) → from < m → m ≤ r.end → m ≤ q.end → r.set ≡ q.set → spell from (r ∷ rs) ≡ spell from (q ∷ qs) → spell m (r ∷ rs) ≡ spell m (q ∷ qs)
left_over from m r q rs qs up a b same e =
    append_cancel_left (replicate (m - from) r.set) (spell m (r ∷ rs)) (spell m (q ∷ qs))
    (sym (cut from m r rs (omega arith) a) ∙ e ∙ cut from m q qs (omega arith) b ∙ ap (λ s. replicate (m - from) s ++ spell m (q ∷ qs)) (sym same))

-- a run that ends at m spells nothing behind it
done : (m : ℕ) (r : Run) (rs : List Run) → r.end ≡ m → spell m (r ∷ rs) ≡ spell m rs
done m r rs e = let none : r.end - m ≡ 0 = omega arith in ap (λ n. replicate n r.set ++ spell r.end rs) none ∙ ap (λ n. spell n rs) e

empty_length : (from : ℕ) (r : Run) (rs : List Run) → from < r.end → [] ≡ spell from (r ∷ rs) → ⊥
empty_length from r rs lt e = omega (arith, ap length e, length-append (replicate (r.end - from) r.set) (spell r.end rs), length-replicate (r.end - from) r.set)

-- another run begins where the set goes on
clash : (r q : Run) (rs qs : List Run) → Differs r.set rs → IsCoalesced r.end rs → r.end < q.end → r.set ≡ q.set → spell r.end rs ≡ spell r.end (q ∷ qs) → ⊥
clash r q [] qs d c lt same e = empty_length r.end q qs lt e
clash r q (p ∷ ps) qs d c lt same e = d (same ∙ sym (same_first r.end p q ps qs c.0 lt e))

pub least : (from : ℕ) (rs qs : List Run) → IsCoalesced from rs → IsRising from qs → spell from rs ≡ spell from qs → length rs ≤ length qs
least from [] qs c u e = omega arith
least from (r ∷ rs) [] c u e = absurd (empty_length from r rs c.0 (sym e))
least from (r ∷ rs) (q ∷ qs) c u e =
    let same : r.set ≡ q.set = same_first from r q rs qs c.0 u.0 e in
    ⊎_elim
    (λ eq. let rest : spell r.end rs ≡ spell r.end qs = sym (done r.end r rs refl) ∙ left_over from r.end r q rs qs c.0 (omega arith) (omega arith) same e ∙ done r.end q qs (sym eq) in
    let up : IsRising r.end qs = subst (λ (n : ℕ). IsRising n qs) (sym eq) u.1 in
    omega (arith, least r.end rs qs c.2 up rest))
    (λ other. ⊎_elim
    -- r ends first: the next set is another one
    (λ lt. absurd (clash r q rs qs c.1 c.2 lt same (sym (done r.end r rs refl) ∙ left_over from r.end r q rs qs c.0 (omega arith) (omega arith) same e)))
    -- q ends first
    (λ gt. let rest : spell q.end (r ∷ rs) ≡ spell q.end qs = left_over from q.end r q rs qs u.0 (omega arith) (omega arith) same e ∙ done q.end q qs refl in
    omega (arith, least q.end (r ∷ rs) qs (gt, c.1, c.2) u.1 rest))
    other)
    (cases_order r.end q.end)

-- coalesced runs rise
rising_ends : (from : ℕ) (rs : List Run) → IsCoalesced from rs → IsRising from rs
rising_ends from [] c = tt
rising_ends from (r ∷ rs) c = (c.0, rising_ends r.end rs c.2)

pub least_count : (rs : List Run) (sets : List NumberSet) → IsCoalesced 0 rs → spell 0 rs ≡ sets → IsLeastCount sets (length rs)
least_count rs sets c spelled = record {
  reached = (rs, rising_ends 0 rs c, spelled, refl);
  least = λ qs up e. least 0 rs qs c up (spelled ∙ sym e);
}
