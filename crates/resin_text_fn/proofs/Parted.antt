-- Parts of a text that match, and the pieces round them.
use Rattle.std.proofs.Common.{◌≡◌, ℕ, ◌+◌, ◌-◌, ◌<◌, ◌≤◌, List, [], ◌∷◌, ◌++◌, zero, suc, length, take, drop, refl, sym, subst, ◌∙◌, ⊎_elim, arith, append_assoc}
use Rattle.std.specs.Prelude.{map}
use Rattle.std.proofs.lemmas.Bool.{cond_both, cases_lt, false≢true}
use Rattle.memchr.specs.Find.{OccursAt, Nowhere, matches_from, match_len, occurs_at}
use Rattle.memchr.proofs.lemmas.MatchLemmas.{OccursAt-true, occurs_at-true}
use Rattle.resin_lstr.specs.Texts.{Text, ArePartsFrom}
use Rattle.resin_text_fn.specs.Matches.{matched_parts, AreLeftmost, pieces_round}

-- ---- the matches follow one another
module _ (h n : List ℕ) (some : 0 < length n) where
  abbrev part : ℕ → ℕ × ℕ
  part start = (start, start + length n)

  parts_from : (from skip i count : ℕ) → from ≤ i + skip → from ≤ length h → ArePartsFrom from (map part (matches_from h n skip i count)) (length h)
  unfolding matches_from
  parts_from from skip i zero low within = within
  parts_from from zero i (suc count) low within =
      cond_both (occurs_at h n i) (i ∷ matches_from h n (match_len n - 1) (i + 1) count) (matches_from h n 0 (i + 1) count)
      (λ starts. ArePartsFrom from (map part starts) (length h))
      (λ yes.
      let fits = (OccursAt-true h n i yes).fits in
      (omega (arith, low), omega arith, parts_from (i + length n) (match_len n - 1) (i + 1) count (omega arith) (omega (arith, fits))))
      (λ no. parts_from from 0 (i + 1) count (omega (arith, low)) within)
  parts_from from (suc skip) i (suc count) low within = parts_from from skip (i + 1) count (omega (arith, low)) within

  pub parts_follow : ArePartsFrom 0 (matched_parts h n) (length h)
  parts_follow = parts_from 0 0 0 (length h + 1 - 0) (omega arith) (omega arith)

-- ---- the matches are the leftmost
module _ (h n : List ℕ) (some : 0 < length n) where
  leftmost_from : (from skip i count : ℕ) → count ≡ length h + 1 - i → from ≤ i + skip → Nowhere (OccursAt h n) from (i + skip) → AreLeftmost from (map (λ start. (start, start + length n)) (matches_from h n skip i count)) h n
  unfolding matches_from
  leftmost_from from skip i zero left low gap = λ k a b occurs. ⊎_elim
      (λ lt. gap k a (omega arith) occurs)
      (λ ge. absurd (omega (arith, ge, left, occurs.fits, some)))
      (cases_lt k i)
  leftmost_from from zero i (suc count) left low gap =
      cond_both (occurs_at h n i) (i ∷ matches_from h n (match_len n - 1) (i + 1) count) (matches_from h n 0 (i + 1) count)
      (λ starts. AreLeftmost from (map (λ start. (start, start + length n)) starts) h n)
      (λ yes. (
        OccursAt-true h n i yes,
        λ k a b occurs. gap k a (omega arith) occurs,
        omega (arith, low),
        refl,
        leftmost_from (i + length n) (match_len n - 1) (i + 1) count (omega arith) (omega (arith, some)) (λ k a b occurs. absurd (omega (arith, a, b, some))),
      ))
      (λ no. leftmost_from from 0 (i + 1) count (omega arith) (omega (arith, low))
      (λ k a b occurs. ⊎_elim
      (λ lt. gap k a (omega arith) occurs)
      (λ ge. let here : k ≡ i = omega arith in absurd (false≢true (sym no ∙ occurs_at-true h n i (subst (OccursAt h n) here occurs))))
      (cases_lt k i)))
  leftmost_from from (suc skip) i (suc count) left low gap =
      leftmost_from from skip (i + 1) count (omega arith) (omega (arith, low)) (λ k a b occurs. gap k a (omega arith) occurs)

  pub parts_leftmost : AreLeftmost 0 (matched_parts h n) h n
  parts_leftmost = leftmost_from 0 0 0 (length h + 1 - 0) refl (omega arith) (λ k a b occurs. absurd (omega arith))

-- ---- parts in a row
pub parts_end : (from : ℕ) (ps : List (ℕ × ℕ)) (n : ℕ) → ArePartsFrom from ps n → from ≤ n
parts_end from [] n h = h
parts_end from (p ∷ ps) n h = omega (arith, h.0, h.1, parts_end p.1 ps n h.2)

pub parts_earlier : (from : ℕ) (ps : List (ℕ × ℕ)) (n : ℕ) → ArePartsFrom from ps n → ArePartsFrom 0 ps n
parts_earlier from [] n h = omega arith
parts_earlier from (p ∷ ps) n h = (omega arith, h.1, h.2)

-- one more piece
pub piece_more : (out : List Text) (from : ℕ) (p : ℕ × ℕ) (ps : List (ℕ × ℕ)) (t : Text) (whole : List Text) → out ++ pieces_round from (p ∷ ps) t ≡ whole → (out ++ take (p.0 - from) (drop from t) ∷ []) ++ pieces_round p.1 ps t ≡ whole
piece_more out from p ps t whole e = append_assoc out (take (p.0 - from) (drop from t) ∷ []) (pieces_round p.1 ps t) ∙ e
