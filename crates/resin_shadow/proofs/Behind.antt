-- Runs that are put behind others.
use Rattle.std.proofs.Common.{◌≡◌, ℕ, zero, suc, ◌+◌, ◌^◌, ◌<◌, ◌≤◌, List, [], ◌∷◌, ◌++◌, length, map, take, get_or, refl, sym, ap, subst, ◌∙◌, arith, length-append, append_assoc, append-nil}
use Rattle.std.specs.Prelude.{replicate}
use Rattle.std.proofs.lemmas.List.{length-replicate}
use Rattle.resin_shadow.specs.declared.table.FrozenRun.{FrozenRun}
use Rattle.resin_shadow.specs.Marks.{TextSet, IsTextSet, Marks, MarkRun, Each, AreMarks, runs_of, spelled}
use Rattle.resin_shadow.specs.Runs.{set_of, run_of, marks_of, AreRunsOf}
use Rattle.resin_shadow.proofs.Marked.{spelled_runs, some_runs, runs_hold}
use Rattle.resin_shadow.proofs.Places.{set_made, in_itself}
use Rattle.resin_shadow.proofs.Loops.{take_next}

-- a set is made of its texts
set_itself : (s : TextSet) → IsTextSet s → set_of s ≡ s
set_itself s h = set_made s s h (in_itself [] s) (in_itself [] s)

marks-more : (xs ys : List FrozenRun) → marks_of (xs ++ ys) ≡ marks_of xs ++ marks_of ys
marks-more [] ys = refl
marks-more (x ∷ xs) ys = ap (λ v. replicate x.len x.set ++ v) (marks-more xs ys) ∙ sym (append_assoc (replicate x.len x.set) (marks_of xs) (marks_of ys))

marks_next : (rs : List FrozenRun) (i : ℕ) (r : FrozenRun) → i < length rs → r ≡ get_or rs i r → marks_of (take (i + 1) rs) ≡ marks_of (take i rs) ++ replicate r.len r.set
marks_next rs i r h at =
    ap marks_of (take_next rs i r h ∙ ap (λ y. take i rs ++ y ∷ []) (sym at)) ∙ marks-more (take i rs) (r ∷ [])
    ∙ ap (λ z. marks_of (take i rs) ++ z) (append-nil (replicate r.len r.set))

-- what holds of each run holds of one of them
run_holds : (P : MarkRun → Type 0) (rs : List FrozenRun) (i : ℕ) (r : FrozenRun) → Each P (map run_of rs) → i < length rs → r ≡ get_or rs i r → P (run_of r)
run_holds P [] i r e h at = absurd (omega arith)
run_holds P (x ∷ rs) zero r e h at = subst (λ y. P (run_of y)) (sym at) e.0
run_holds P (x ∷ rs) (suc i) r e h at = run_holds P rs i r e.1 (omega arith) at

front_fits : (rs : List FrozenRun) (i : ℕ) → length (marks_of (take i rs)) ≤ length (marks_of rs)
front_fits [] zero = omega arith
front_fits [] (suc i) = omega arith
front_fits (x ∷ rs) zero = omega arith
front_fits (x ∷ rs) (suc i) =
    let a = front_fits rs i in
    let b = length-append (replicate x.len x.set) (marks_of (take i rs)) in
    let c = length-append (replicate x.len x.set) (marks_of rs) in
    omega (arith, a, b, c)

all_taken : {X : Type 0} (xs : List X) (i : ℕ) → length xs ≤ i → take i xs ≡ xs
all_taken [] zero h = refl
all_taken [] (suc i) h = refl
all_taken (x ∷ xs) zero h = absurd (omega arith)
all_taken (x ∷ xs) (suc i) h = ap (λ ys. x ∷ ys) (all_taken xs i (omega arith))

module _ (v : Marks) (rs : List FrozenRun) (are : AreRunsOf v rs) where
  all_marks : marks_of rs ≡ v
  all_marks = ap spelled are ∙ spelled_runs v

  -- a run has bytes
  pub run_some : (i : ℕ) (r : FrozenRun) → i < length rs → r ≡ get_or rs i r → 0 < r.len
  run_some i r h at = run_holds (λ r. 0 < r.0) rs i r (subst (Each (λ r. 0 < r.0)) (sym are) (some_runs v)) h at

  -- and one more is as many as there are, at most
  pub run_fits : (old now : Marks) (i : ℕ) (r : FrozenRun) → i < length rs → r ≡ get_or rs i r → now ≡ old ++ marks_of (take i rs) → length old + length v < 2 ^ 64 → length now + r.len < 2 ^ 64
  run_fits old now i r h at e small =
      let a = ap length e in
      let b = length-append old (marks_of (take i rs)) in
      let c = ap length (marks_next rs i r h at) in
      let d = length-append (marks_of (take i rs)) (replicate r.len r.set) in
      let f = length-replicate r.len r.set in
      let g = front_fits rs (i + 1) in
      let k = ap length all_marks in
      omega (arith, a, b, c, d, f, g, k, small)

  -- one more run is put behind
  pub run_next : AreMarks v → (old now new : Marks) (i : ℕ) (r : FrozenRun) → i < length rs → r ≡ get_or rs i r → now ≡ old ++ marks_of (take i rs) → new ≡ now ++ replicate r.len (set_of r.set)
      → new ≡ old ++ marks_of (take (i + 1) rs)
  run_next marks old now new i r h at e n =
      let s : set_of r.set ≡ r.set = set_itself r.set (run_holds (λ r. IsTextSet r.1) rs i r (subst (Each (λ r. IsTextSet r.1)) (sym are) (runs_hold IsTextSet v marks.sets)) h at) in
      n ∙ ap (λ u. now ++ replicate r.len u) s ∙ ap (λ w. w ++ replicate r.len r.set) e ∙ append_assoc old (marks_of (take i rs)) (replicate r.len r.set)
      ∙ ap (λ w. old ++ w) (sym (marks_next rs i r h at))

  pub runs_end : (old now : Marks) (i : ℕ) → length rs ≤ i → now ≡ old ++ marks_of (take i rs) → now ≡ old ++ v
  runs_end old now i h e = e ∙ ap (λ xs. old ++ marks_of xs) (all_taken rs i h) ∙ ap (λ w. old ++ w) all_marks
