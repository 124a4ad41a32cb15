-- Maximal runs are what the sets that they spell have as runs.
use Rattle.std.proofs.Common.{◌≡◌, ◌≢◌, ℕ, zero, suc, ◌+◌, ◌<◌, true, false, cond, List, [], ◌∷◌, ◌++◌, length, refl, sym, ap, ◌∙◌, arith, length-append}
use Rattle.std.specs.Prelude.{replicate, Decides}
use Rattle.std.specs.List.{sum_by}
use Rattle.std.proofs.lemmas.Bool.{false_from_ne_true}
use Rattle.std.proofs.lemmas.List.{length-replicate}
use Rattle.std.proofs.lemmas.List.Sums.{sum_by-cons}
use Rattle.std.proofs.lemmas.Slice.Eq.{slice_eq-Decides, bytes_eq-Decides}
use Rattle.resin_shadow.specs.Marks.{TextSet, same_set, Marks, MarkRun, with_byte, runs_of, spelled}
use Rattle.resin_shadow.specs.Runs.{AreMaximal}

pub same_decides : (s t : TextSet) → Decides (same_set s t) (s ≡ t)
same_decides s t = slice_eq-Decides bytes_eq-Decides s t (same_set s t) refl

pub same_itself : (s : TextSet) → same_set s s ≡ true
same_itself s = (same_decides s s).1 refl

pub others : (s t : TextSet) → s ≢ t → same_set s t ≡ false
others s t h = false_from_ne_true (same_set s t) (λ e. h ((same_decides s t).0 e))

-- the run in front has another set
abbrev IsOther : TextSet → List MarkRun → Type 0
IsOther s [] = Unit {0}
IsOther s (r ∷ rs) = same_set s r.1 ≡ false

one : (s : TextSet) (rs : List MarkRun) → IsOther s rs → with_byte s rs ≡ (1, s) ∷ rs
one s [] h = refl
one s (r ∷ rs) h = ap (λ b. cond b ((r.0 + 1, r.1) ∷ rs) ((1, s) ∷ r ∷ rs)) h

run_front : (n : ℕ) (s : TextSet) (v : Marks) (rs : List MarkRun) → runs_of v ≡ rs → IsOther s rs → runs_of (replicate (suc n) s ++ v) ≡ (suc n, s) ∷ rs
run_front zero s v rs e h = ap (with_byte s) e ∙ one s rs h
run_front (suc n) s v rs e h =
    ap (with_byte s) (run_front n s v rs e h)
    ∙ ap (λ b. cond b ((suc n + 1, s) ∷ rs) ((1, s) ∷ (suc n, s) ∷ rs)) (same_itself s)
    ∙ ap (λ k. (k, s) ∷ rs) (let k : suc n + 1 ≡ suc (suc n) = omega arith in k)

front_at : (n : ℕ) (s : TextSet) (v : Marks) (rs : List MarkRun) → 0 < n → runs_of v ≡ rs → IsOther s rs → runs_of (replicate n s ++ v) ≡ (n, s) ∷ rs
front_at zero s v rs lt e h = absurd (omega arith)
front_at (suc n) s v rs lt e h = run_front n s v rs e h

pub runs_spelled : (rs : List MarkRun) → AreMaximal rs → runs_of (spelled rs) ≡ rs
runs_spelled [] h = refl
runs_spelled (r ∷ []) h = front_at r.0 r.1 [] [] h refl tt
runs_spelled (r ∷ q ∷ rs) h = front_at r.0 r.1 (spelled (q ∷ rs)) (q ∷ rs) h.0 (runs_spelled (q ∷ rs) h.2) (others r.1 q.1 h.1)

pub length_spelled : (rs : List MarkRun) → length (spelled rs) ≡ sum_by (λ r. r.0) rs
length_spelled [] = refl
length_spelled (r ∷ rs) =
    length-append (replicate r.0 r.1) (spelled rs) ∙ ap (λ n. n + length (spelled rs)) (length-replicate r.0 r.1) ∙ ap (λ n. r.0 + n) (length_spelled rs) ∙ sym (sum_by-cons (λ r. r.0) r rs)
