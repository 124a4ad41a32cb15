-- The lines of runs are read back as the runs that they tell.
use Rattle.std.proofs.Common.{◌≡◌, ℕ, suc, ◌+◌, ◌^◌, ◌<◌, ◌≤◌, Bool, true, false, cond, List, [], ◌∷◌, ◌++◌, length, map, Option, Some, None, decimal, refl, sym, ap, ◌∙◌, arith, append_assoc, add-one}
use Rattle.std.specs.Prelude.{not, nat_lt, replicate}
use Rattle.std.specs.List.{flat_map, list_all}
use Rattle.std.proofs.lemmas.Bool.Decides.{nat_tests}
use Rattle.resin_label.specs.Sets.{NumberSet, numbers, same, IsRising}
use Rattle.resin_label.specs.Kept.{of_rising}
use Rattle.resin_label.proofs.Members.{numbers-of_rising, rising, same_numbers, same-decides}
use Rattle.resin_lstr.specs.declared.limits.TheConstants.{LONGEST}
use Rattle.resin_journal_file.specs.Files.{with_place, runs_of, run_line}
use Rattle.resin_journal_file.specs.Limits.{Each, IsObject}
use Rattle.resin_journal_file.specs.Reading.{and_then, fields_of, number, LARGEST_OBJECT, objects, is_rising, run_of, RunRead, runs, total, differs, is_coalesced, sets}
use Rattle.resin_journal_file.proofs.Decimals.{both, number-decimal}
use Rattle.resin_journal_file.proofs.Fields.{lacks, cut-line, fields-line, lacks-decimal}

-- a run as it is read
abbrev pub as_read : ℕ × NumberSet → RunRead
as_read r = (r.0, numbers r.1)

-- a run that a file can tell
abbrev pub IsRun : ℕ × NumberSet → Type 0
IsRun r = (r.0 ≤ LONGEST) × Each IsObject (numbers r.1)

lt_true : (a b : ℕ) → a < b → nat_lt a b ≡ true
lt_true a b h = grind (arith, nat_tests)

objects-decimal : (ns : List ℕ) → Each IsObject ns → objects (map decimal ns) ≡ Some ns
objects-decimal [] h = refl
objects-decimal (n ∷ ns) h =
    let small : n < 2 ^ 32 = h.0 in
    let read : number LARGEST_OBJECT (decimal n) ≡ Some n = number-decimal LARGEST_OBJECT n (omega arith) (omega arith) in
    ap (λ o. and_then o (λ m. and_then (objects (map decimal ns)) (λ ms. Some (m ∷ ms)))) read
    ∙ ap (λ o. and_then o (λ ms. Some (n ∷ ms))) (objects-decimal ns h.1)

rises : (ns : List ℕ) → IsRising ns → is_rising ns ≡ true
rises [] h = refl
rises (n ∷ []) h = refl
rises (n ∷ m ∷ ms) h = both _ _ (lt_true n m h.0) (rises (m ∷ ms) h.1)

lacks-decimals : (c : ℕ) (ns : List ℕ) → c < 48 → Each IsObject ns → list_all (lacks c) (map decimal ns) ≡ true
lacks-decimals c [] low h = refl
lacks-decimals c (n ∷ ns) low h = let small : n < 2 ^ 32 = h.0 in both _ _ (lacks-decimal c n low (omega arith)) (lacks-decimals c ns low h.1)

run-line : (r : ℕ × NumberSet) → IsRun r → run_of (decimal r.0 ∷ map decimal (numbers r.1)) ≡ Some (as_read r)
run-line r h =
    let short : r.0 ≤ LONGEST = h.0 in
    ap (λ o. and_then o (λ len. and_then (objects (map decimal (numbers r.1))) (λ ps. cond (is_rising ps) (Some (len, ps)) None))) (number-decimal LONGEST r.0 short (omega (arith, short)))
    ∙ ap (λ o. and_then o (λ ps. cond (is_rising ps) (Some (r.0, ps)) None)) (objects-decimal (numbers r.1) h.1)
    ∙ ap (λ b. cond b (Some (r.0, numbers r.1)) None) (rises (numbers r.1) (rising r.1))

-- what reading goes on with behind a run
then_runs : ℕ → RunRead → List ℕ → Option (List RunRead × List ℕ)
then_runs count run rest = and_then (runs count rest) (λ more. Some (run ∷ more.0, more.1))

pub runs-lines : (rs : List (ℕ × NumberSet)) (rest : List ℕ) → Each IsRun rs → runs (length rs) (flat_map run_line rs ++ rest) ≡ Some (map as_read rs, rest)
unfolding then_runs
runs-lines [] rest h = refl
runs-lines (r ∷ rs) rest h =
    let f = decimal r.0 in
    let fs = map decimal (numbers r.1) in
    let short : r.0 ≤ LONGEST = h.0.0 in
    let small : r.0 < 2 ^ 64 = omega arith in
    ap (runs (suc (length rs))) (append_assoc (run_line r) (flat_map run_line rs) rest)
    ∙ ap (λ o. and_then o (λ l. and_then (run_of (fields_of l.0)) (λ run. then_runs (length rs) run l.1)))
    (cut-line f fs (flat_map run_line rs ++ rest) (both _ _ (lacks-decimal 10 r.0 (omega arith) small) (lacks-decimals 10 (numbers r.1) (omega arith) h.0.1)))
    ∙ ap (λ gs. and_then (run_of gs) (λ run. then_runs (length rs) run (flat_map run_line rs ++ rest)))
    (fields-line f fs (lacks-decimal 32 r.0 (omega arith) small) (lacks-decimals 32 (numbers r.1) (omega arith) h.0.1))
    ∙ ap (λ o. and_then o (λ run. then_runs (length rs) run (flat_map run_line rs ++ rest))) (run-line r h.0)
    ∙ ap (λ o. and_then o (λ more. Some (as_read r ∷ more.0, more.1))) (runs-lines rs rest h.1)

-- ---- the runs of a list of sets

-- no run is empty, and neighbouring runs differ in their sets
abbrev Parted : List (ℕ × NumberSet) → Type 0
Parted [] = Unit {0}
Parted (r ∷ []) = 0 < r.0
Parted (r ∷ q ∷ rs) = (0 < r.0) × (same r.1 q.1 ≡ false) × Parted (q ∷ rs)

-- the first of the runs doesn't have the policies of the run before
abbrev Begins : Option (List ℕ) → List (ℕ × NumberSet) → Type 0
Begins before [] = Unit {0}
Begins before (r ∷ rs) = differs before (numbers r.1) ≡ true

longer : (n : ℕ) (s : NumberSet) (rs : List (ℕ × NumberSet)) → Parted ((n, s) ∷ rs) → Parted ((n + 1, s) ∷ rs)
longer n s [] h = omega arith
longer n s (q ∷ rs) h = (omega arith, h.1, h.2)

parted : (ss : List NumberSet) → Parted (runs_of ss)
parted [] = tt
parted (s ∷ ss) = placed (runs_of ss) (parted ss)
  where
    placed : (rs : List (ℕ × NumberSet)) → Parted rs → Parted (with_place s rs)
    placed [] h = omega arith
    placed (r ∷ rs) h = by (same s r.1) refl
      where
        by : (b : Bool) → same s r.1 ≡ b → Parted (cond b ((r.0 + 1, r.1) ∷ rs) ((1, s) ∷ r ∷ rs))
        by true e = longer r.0 r.1 rs h
        by false e = (omega arith, e, h)

coalesced_read : (before : Option (List ℕ)) (rs : List (ℕ × NumberSet)) → Parted rs → Begins before rs → is_coalesced before (map as_read rs) ≡ true
coalesced_read before [] h d = refl
coalesced_read before (r ∷ []) h d = both _ _ (both (nat_lt 0 r.0) (differs before (numbers r.1)) (lt_true 0 r.0 h) d) refl
coalesced_read before (r ∷ q ∷ rs) h d =
    both _ _ (both (nat_lt 0 r.0) (differs before (numbers r.1)) (lt_true 0 r.0 h.0) d) (coalesced_read (Some (numbers r.1)) (q ∷ rs) h.2 (ap not h.1))

pub coalesced-runs : (ss : List NumberSet) → is_coalesced None (map as_read (runs_of ss)) ≡ true
coalesced-runs ss = coalesced_read None (runs_of ss) (parted ss) (begins (runs_of ss))
  where
    begins : (rs : List (ℕ × NumberSet)) → Begins None rs
    begins [] = tt
    begins (r ∷ rs) = refl

pub total-runs : (ss : List NumberSet) → total (map as_read (runs_of ss)) ≡ length ss
total-runs [] = refl
total-runs (s ∷ ss) = placed (runs_of ss) ∙ ap suc (total-runs ss)
  where
    placed : (rs : List (ℕ × NumberSet)) → total (map as_read (with_place s rs)) ≡ suc (total (map as_read rs))
    placed [] = omega arith
    placed (r ∷ rs) = by (same s r.1)
      where
        by : (b : Bool) → total (map as_read (cond b ((r.0 + 1, r.1) ∷ rs) ((1, s) ∷ r ∷ rs))) ≡ suc (total (map as_read (r ∷ rs)))
        by true = omega arith
        by false = omega arith

kept : (s : NumberSet) → of_rising (numbers s) ≡ s
kept s = same_numbers (of_rising (numbers s)) s (numbers-of_rising (numbers s) (rising s))

one_more : {X : Type 0} (n : ℕ) (x : X) → replicate (n + 1) x ≡ x ∷ replicate n x
one_more n x = rw add-one refl

pub sets-runs : (ss : List NumberSet) → sets (map as_read (runs_of ss)) ≡ ss
sets-runs [] = refl
sets-runs (s ∷ ss) = placed (runs_of ss) ∙ ap (λ ts. s ∷ ts) (sets-runs ss)
  where
    placed : (rs : List (ℕ × NumberSet)) → sets (map as_read (with_place s rs)) ≡ s ∷ sets (map as_read rs)
    placed [] = ap (λ t. t ∷ []) (kept s)
    placed (r ∷ rs) = by (same s r.1) refl
      where
        by : (b : Bool) → same s r.1 ≡ b → sets (map as_read (cond b ((r.0 + 1, r.1) ∷ rs) ((1, s) ∷ r ∷ rs))) ≡ s ∷ sets (map as_read (r ∷ rs))
        by true e =
            ap (λ ts. ts ++ sets (map as_read rs)) (one_more r.0 (of_rising (numbers r.1)))
            ∙ ap (λ t. t ∷ (replicate r.0 (of_rising (numbers r.1)) ++ sets (map as_read rs))) (kept r.1 ∙ sym ((same-decides s r.1).0 e))
        by false e = ap (λ t. t ∷ sets (map as_read (r ∷ rs))) (kept s)

-- runs of a text that a file can tell are runs that a file can tell
each_shorter : (n m : ℕ) (rs : List (ℕ × NumberSet)) → n ≤ m → Each (λ r. r.0 ≤ n) rs → Each (λ r. r.0 ≤ m) rs
each_shorter n m [] le h = tt
each_shorter n m (r ∷ rs) le h = (let k : r.0 ≤ n = h.0 in omega arith, each_shorter n m rs le h.1)

shorter : (ss : List NumberSet) → Each (λ r. r.0 ≤ length ss) (runs_of ss)
shorter [] = tt
shorter (s ∷ ss) = placed (runs_of ss) (shorter ss)
  where
    placed : (rs : List (ℕ × NumberSet)) → Each (λ r. r.0 ≤ length ss) rs → Each (λ r. r.0 ≤ suc (length ss)) (with_place s rs)
    placed [] h = (omega arith, tt)
    placed (r ∷ rs) h = by (same s r.1)
      where
        rest : Each (λ q. q.0 ≤ suc (length ss)) rs
        rest = each_shorter (length ss) (suc (length ss)) rs (omega arith) h.1

        by : (b : Bool) → Each (λ q. q.0 ≤ suc (length ss)) (cond b ((r.0 + 1, r.1) ∷ rs) ((1, s) ∷ r ∷ rs))
        by true = (let k : r.0 ≤ length ss = h.0 in omega arith, rest)
        by false = (omega arith, (let k : r.0 ≤ length ss = h.0 in omega arith, rest))

carried : (ss : List NumberSet) → Each (λ s. Each IsObject (numbers s)) ss → Each (λ r. Each IsObject (numbers r.1)) (runs_of ss)
carried [] h = tt
carried (s ∷ ss) h = placed (runs_of ss) (carried ss h.1)
  where
    placed : (rs : List (ℕ × NumberSet)) → Each (λ r. Each IsObject (numbers r.1)) rs → Each (λ r. Each IsObject (numbers r.1)) (with_place s rs)
    placed [] k = (h.0, tt)
    placed (r ∷ rs) k = by (same s r.1)
      where
        by : (b : Bool) → Each (λ q. Each IsObject (numbers q.1)) (cond b ((r.0 + 1, r.1) ∷ rs) ((1, s) ∷ r ∷ rs))
        by true = k
        by false = (h.0, k)

pub are_runs : (ss : List NumberSet) → length ss ≤ LONGEST → Each (λ s. Each IsObject (numbers s)) ss → Each IsRun (runs_of ss)
are_runs ss short h = joined (runs_of ss) (each_shorter (length ss) LONGEST (runs_of ss) short (shorter ss)) (carried ss h)
  where
    joined : (rs : List (ℕ × NumberSet)) → Each (λ r. r.0 ≤ LONGEST) rs → Each (λ r. Each IsObject (numbers r.1)) rs → Each IsRun rs
    joined [] h k = tt
    joined (r ∷ rs) h k = ((h.0, k.0), joined rs h.1 k.1)
