-- Runs with ends, as runs with lengths.
use Rattle.std.proofs.Common.{◌≡◌, ◌≢◌, ℕ, zero, suc, ◌+◌, ◌-◌, ◌<◌, Bool, true, false, cond, List, [], ◌∷◌, ◌++◌, length, take, map, decimal, refl, sym, ap, ◌∙◌, arith, append-nil}
use Rattle.std.specs.Prelude.{replicate}
use Rattle.std.specs.List.{flat_map, join_with_byte}
use Rattle.std.proofs.lemmas.List.Concat.{flat_map-append}
use Rattle.resin_label.specs.Sets.{NumberSet, same}
use Rattle.resin_label.proofs.Members.{same-decides}
use Rattle.resin_lstr.specs.declared.text.Run.{Run}
use Rattle.resin_lstr.specs.Runs.{spell, last_end, IsCoalesced, Differs}
use Rattle.resin_journal_file.specs.Files.{with_place, runs_of, lengths, run_line}

-- the first run, if there is one, has another set
abbrev pub NotFirst : NumberSet → List (ℕ × NumberSet) → Type 0
NotFirst s [] = Unit {0}
NotFirst s (r ∷ rs) = same s r.1 ≡ false

other : (s t : NumberSet) → s ≢ t → same s t ≡ false
other s t h = by (same s t) refl
  where
    by : (b : Bool) → same s t ≡ b → same s t ≡ false
    by true e = absurd (h ((same-decides s t).0 e))
    by false e = e

begun : (s : NumberSet) (rs : List (ℕ × NumberSet)) → NotFirst s rs → with_place s rs ≡ (1, s) ∷ rs
begun s [] h = refl
begun s (r ∷ rs) h = ap (λ b. cond b ((r.0 + 1, r.1) ∷ rs) ((1, s) ∷ r ∷ rs)) h

longer : (s : NumberSet) (n : ℕ) (rs : List (ℕ × NumberSet)) → with_place s ((n, s) ∷ rs) ≡ (n + 1, s) ∷ rs
longer s n rs = ap (λ b. cond b ((n + 1, s) ∷ rs) ((1, s) ∷ (n, s) ∷ rs)) ((same-decides s s).1 refl)

-- places with one set, before a run with another
pub one_run : (n : ℕ) (s : NumberSet) (ss : List NumberSet) (rs : List (ℕ × NumberSet)) → 0 < n → runs_of ss ≡ rs → NotFirst s rs → runs_of (replicate n s ++ ss) ≡ (n, s) ∷ rs
one_run zero s ss rs lt e h = absurd (omega arith)
one_run (suc zero) s ss rs lt e h = ap (with_place s) e ∙ begun s rs h
one_run (suc (suc n)) s ss rs lt e h =
    ap (with_place s) (one_run (suc n) s ss rs (omega arith) e h) ∙ longer s (suc n) rs
    ∙ (let k : suc n + 1 ≡ suc (suc n) = omega arith in ap (λ m. (m, s) ∷ rs) k)

apart : (s : NumberSet) (from : ℕ) (rs : List Run) → Differs s rs → NotFirst s (lengths from rs)
apart s from [] h = tt
apart s from (r ∷ rs) h = other s r.set h

-- coalesced runs are the runs of the sets that they spell
pub lengths_are : (from : ℕ) (rs : List Run) → IsCoalesced from rs → runs_of (spell from rs) ≡ lengths from rs
lengths_are from [] h = refl
lengths_are from (r ∷ rs) h =
    one_run (r.end - from) r.set (spell r.end rs) (lengths r.end rs) (let l = h.0 in omega arith) (lengths_are r.end rs h.2) (apart r.set r.end rs h.1)

pub length-lengths : (from : ℕ) (rs : List Run) → length (lengths from rs) ≡ length rs
length-lengths from [] = refl
length-lengths from (r ∷ rs) = ap suc (length-lengths r.end rs)

lengths-append : (from : ℕ) (rs qs : List Run) → lengths from (rs ++ qs) ≡ lengths from rs ++ lengths (last_end from rs) qs
lengths-append from [] qs = refl
lengths-append from (r ∷ rs) qs = ap (λ ls. (r.end - from, r.set) ∷ ls) (lengths-append r.end rs qs)

-- one more run
pub lines_more : (rs : List Run) (k : ℕ) (r : Run) → take (k + 1) rs ≡ take k rs ++ r ∷ []
    → flat_map run_line (lengths 0 (take (k + 1) rs)) ≡ flat_map run_line (lengths 0 (take k rs)) ++ run_line (r.end - last_end 0 (take k rs), r.set)
lines_more rs k r e =
    ap (λ qs. flat_map run_line (lengths 0 qs)) e
    ∙ ap (flat_map run_line) (lengths-append 0 (take k rs) (r ∷ []))
    ∙ flat_map-append run_line (lengths 0 (take k rs)) ((r.end - last_end 0 (take k rs), r.set) ∷ [])
    ∙ ap (λ t. flat_map run_line (lengths 0 (take k rs)) ++ t) (append-nil (run_line (r.end - last_end 0 (take k rs), r.set)))

-- the fields behind the first, each behind a blank
pub fields_behind : (f : List ℕ) (ns : List ℕ) → join_with_byte 32 (f ∷ map decimal ns) ≡ f ++ flat_map (λ n. 32 ∷ decimal n) ns
fields_behind f [] = sym (append-nil f)
fields_behind f (n ∷ ns) = ap (λ t. f ++ 32 ∷ t) (fields_behind (decimal n) ns)
