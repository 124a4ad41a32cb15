-- What is kept of the lines of runs is what the text carries.
use Rattle.std.proofs.Common.{◌≡◌, ◌≢◌, ℕ, zero, suc, ◌+◌, ◌-◌, ◌<◌, ◌≤◌, Bool, true, false, cond, List, [], ◌∷◌, ◌++◌, length, Option, Some, None, refl, sym, ap, subst, ◌∙◌, arith, append_assoc}
use Rattle.std.specs.Prelude.{◌&&◌, nat_eq, nat_lt, nat_le, replicate, fold, option_map, Result, Ok, Err, IsErrAnd}
use Rattle.std.proofs.lemmas.Result.{err_from_is_err_and}
use Rattle.std.specs.List.{flat_map, zip}
use Rattle.std.proofs.lemmas.Bool.Decides.{nat_tests}
use Rattle.indexmap.specs.IndexSet.{insert_key}
use Rattle.resin_label.specs.Sets.{NumberSet, numbers}
use Rattle.resin_label.specs.Kept.{of_rising}
use Rattle.resin_label.proofs.Members.{numbers-of_rising}
use Rattle.resin_lstr.specs.Texts.{Text, distinct, policies_in_order, sets_of}
use Rattle.resin_lstr.proofs.Distinct.{distinct_run}
use Rattle.resin_journal_file.specs.Limits.{Each}
use Rattle.resin_journal_file.specs.Reading.{and_then, cut, fields_of, run_of, RunRead, runs, total, differs, is_coalesced, sets, bytes, labelled}
use Rattle.resin_journal_file.proofs.Once.{from_some, none_some}
use Rattle.resin_journal_file.proofs.Back.{IsLine, runs_read, bytes_read, length_total, sets_zipped}
use Rattle.resin_audit.specs.declared.labels.RunLine.{RunLine}
use Rattle.resin_audit.specs.declared.labels.Runs.{Runs}
use Rattle.resin_audit.specs.declared.stop.Stop.{Stop}
use Rattle.resin_audit.specs.declared.stop.Stop.TheVariants.{Form, Memory}
use Rattle.resin_audit.specs.Read.{Reads}
use Rattle.resin_audit.specs.Runs.{as_line, next_line, no_runs, with_run, next_run, next_runs}
use Rattle.resin_audit.specs.Told.{next_carried}

false_true : false ≡ true → ⊥
false_true e = cc

le_true : (a b : ℕ) → a ≤ b → nat_le a b ≡ true
le_true a b h = grind (arith, nat_tests)

le_false : (a b : ℕ) → b < a → nat_le a b ≡ false
le_false a b h = grind (arith, nat_tests)

le_from : (a b : ℕ) → nat_le a b ≡ true → a ≤ b
le_from a b h = grind (arith, nat_tests)

le_not : (a b : ℕ) → nat_le a b ≡ false → b < a
le_not a b h = grind (arith, nat_tests)

lt_from : (a b : ℕ) → nat_lt a b ≡ true → a < b
lt_from a b h = grind (arith, nat_tests)

lt_true : (a b : ℕ) → a < b → nat_lt a b ≡ true
lt_true a b h = grind (arith, nat_tests)

lt_false : (a b : ℕ) → b ≤ a → nat_lt a b ≡ false
lt_false a b h = grind (arith, nat_tests)

eq_from : (a b : ℕ) → nat_eq a b ≡ true → a ≡ b
eq_from a b h = grind (arith, nat_tests)

eq_true : (a b : ℕ) → a ≡ b → nat_eq a b ≡ true
eq_true a b h = grind (arith, nat_tests)

eq_decides : (a b : ℕ) → (nat_eq a b ≡ true → a ≡ b) × (a ≡ b → nat_eq a b ≡ true)
eq_decides a b = (eq_from a b, eq_true a b)

-- ---- one run more
abbrev added : RunRead → Runs → Runs
added r s = record { left = s.left - r.0; carried = fold (insert_key nat_eq) s.carried r.1; last = Some r.1 }

abbrev after : Runs → List RunRead → Runs
after s [] = s
after s (r ∷ rs) = after (added r s) rs

-- what stands behind the lines of runs, where they fit
abbrev finish : Runs → Option (List RunRead × List ℕ) → Option (Runs × List ℕ)
finish s o = and_then o (λ r. cond (is_coalesced s.last r.0 && nat_le (total r.0) s.left) (Some (after s r.0, r.1)) None)

-- the first run fits
fit : (x l d c k m : Bool) → (x && l && d) ≡ true → k ≡ m → (c && k) ≡ ((x && d && c) && m)
fit true true true c k m h e = ap (λ b. c && b) e
fit true true false c k m h e = absurd (false_true h)
fit true false d c k m h e = absurd (false_true h)
fit false l d c k m h e = absurd (false_true h)

-- the first run doesn't
misfit : (x l d c m : Bool) → (x && l && d) ≡ false → (m ≡ true → l ≡ true) → ((x && d && c) && m) ≡ false
misfit false l d c m h k = refl
misfit true true false c m h k = refl
misfit true true true c m h k = absurd (false_true (sym h))
misfit true false d c false h k = and_false (true && d && c)
  where
    and_false : (b : Bool) → (b && false) ≡ false
    and_false true = refl
    and_false false = refl
misfit true false d c true h k = absurd (false_true (k refl))

le_rest : (a b c : ℕ) → a ≤ c → nat_le b (c - a) ≡ nat_le (a + b) c
le_rest a b c h = by (nat_le b (c - a)) refl
  where
    by : (t : Bool) → nat_le b (c - a) ≡ t → t ≡ nat_le (a + b) c
    by true e = sym (le_true (a + b) c (let k = le_from b (c - a) e in omega (arith, h, k)))
    by false e = sym (le_false (a + b) c (let k = le_not b (c - a) e in omega (arith, h, k)))

fits_case : (n : ℕ) (s : Runs) (r : RunRead) (ys : List ℕ) → ((t : Runs) → next_runs n t ys ≡ finish t (runs n ys))
    → and_then {A = Runs × List ℕ} (and_then (with_run (as_line r) s) (λ t. Some (t, ys))) (λ q. next_runs n q.0 q.1)
    ≡ finish s (and_then (runs n ys) (λ rest. Some (r ∷ rest.0, rest.1)))
fits_case n s r ys rest = by (nat_lt 0 r.0 && nat_le r.0 s.left && differs s.last r.1) refl
  where
    yes : (o : Option (List RunRead × List ℕ)) → (nat_lt 0 r.0 && nat_le r.0 s.left && differs s.last r.1) ≡ true → r.0 ≤ s.left
        → finish (added r s) o ≡ finish s (and_then o (λ rest. Some (r ∷ rest.0, rest.1)))
    yes None h le = refl
    yes (Some q) h le =
        ap (λ b. cond b (Some (after (added r s) q.0, q.1)) None)
        (fit (nat_lt 0 r.0) (nat_le r.0 s.left) (differs s.last r.1) (is_coalesced (Some r.1) q.0) (nat_le (total q.0) (s.left - r.0)) (nat_le (r.0 + total q.0) s.left) h
        (le_rest r.0 (total q.0) s.left le))

    no : (o : Option (List RunRead × List ℕ)) → (nat_lt 0 r.0 && nat_le r.0 s.left && differs s.last r.1) ≡ false
        → None ≡ finish s (and_then o (λ rest. Some (r ∷ rest.0, rest.1)))
    no None h = refl
    no (Some q) h =
        sym (ap (λ b. cond b (Some (after (added r s) q.0, q.1)) None)
        (misfit (nat_lt 0 r.0) (nat_le r.0 s.left) (differs s.last r.1) (is_coalesced (Some r.1) q.0) (nat_le (r.0 + total q.0) s.left) h
        (λ e. le_true r.0 s.left (let k = le_from (r.0 + total q.0) s.left e in omega (arith, k)))))

    second : (x l d : Bool) → (x && l && d) ≡ true → l ≡ true
    second true true d h = refl
    second true false d h = absurd (false_true h)
    second false l d h = absurd (false_true h)

    by : (b : Bool) → (nat_lt 0 r.0 && nat_le r.0 s.left && differs s.last r.1) ≡ b
        → and_then {A = Runs × List ℕ} (and_then (cond b (Some (added r s)) None) (λ t. Some (t, ys))) (λ q. next_runs n q.0 q.1) ≡ finish s (and_then (runs n ys) (λ rest. Some (r ∷ rest.0, rest.1)))
    by true t = rest (added r s) ∙ yes (runs n ys) t (le_from r.0 s.left (second (nat_lt 0 r.0) (nat_le r.0 s.left) (differs s.last r.1) t))
    by false t = no (runs n ys) t

run_case : (n : ℕ) (s : Runs) (o : Option RunRead) (ys : List ℕ) → ((t : Runs) → next_runs n t ys ≡ finish t (runs n ys))
    → and_then {A = Runs × List ℕ} (and_then {A = RunLine × List ℕ} (and_then o (λ r. Some (as_line r, ys))) (λ r. and_then (with_run r.0 s) (λ t. Some (t, r.1)))) (λ q. next_runs n q.0 q.1)
    ≡ finish s (and_then o (λ run. and_then (runs n ys) (λ rest. Some (run ∷ rest.0, rest.1))))
run_case n s None ys rest = refl
run_case n s (Some r) ys rest = fits_case n s r ys rest

line_case : (n : ℕ) (s : Runs) (o : Option (List ℕ × List ℕ)) → ((t : Runs) (ys : List ℕ) → next_runs n t ys ≡ finish t (runs n ys))
    → and_then {A = Runs × List ℕ} (and_then {A = RunLine × List ℕ} (and_then o (λ l. and_then (run_of (fields_of l.0)) (λ r. Some (as_line r, l.1)))) (λ r. and_then (with_run r.0 s) (λ t. Some (t, r.1)))) (λ q. next_runs n q.0 q.1)
    ≡ finish s (and_then o (λ l. and_then (run_of (fields_of l.0)) (λ run. and_then (runs n l.1) (λ rest. Some (run ∷ rest.0, rest.1)))))
line_case n s None rest = refl
line_case n s (Some l) rest = run_case n s (run_of (fields_of l.0)) l.1 (λ t. rest t l.1)

runs_are : (n : ℕ) (s : Runs) (xs : List ℕ) → next_runs n s xs ≡ finish s (runs n xs)
runs_are zero s xs = sym (ap (λ b. cond b (Some (s, xs)) None) (le_true 0 s.left (omega arith)))
runs_are (suc n) s xs = line_case n s (cut 10 xs) (runs_are n)

-- ---- what is kept
after_left : (s : Runs) (rs : List RunRead) → total rs ≤ s.left → (after s rs).left ≡ s.left - total rs
after_left s [] h = omega arith
after_left s (r ∷ rs) h =
    let k = after_left (added r s) rs (omega (arith, h)) in
    k ∙ (let e : s.left - r.0 - total rs ≡ s.left - (r.0 + total rs) = omega (arith, h) in e)

and_first : (a b : Bool) → (a && b) ≡ true → a ≡ true
and_first true b h = refl
and_first false b h = absurd (false_true h)

and_second : (a b : Bool) → (a && b) ≡ true → b ≡ true
and_second true b h = h
and_second false b h = absurd (false_true h)

after_carried : (s : Runs) (rs : List RunRead) (ss : List NumberSet) → Each IsLine rs → is_coalesced s.last rs ≡ true → s.carried ≡ distinct nat_eq (flat_map numbers ss)
    → (after s rs).carried ≡ distinct nat_eq (flat_map numbers (ss ++ sets rs))
after_carried s [] ss h c e = e ∙ ap (λ ts. distinct nat_eq (flat_map numbers ts)) (sym (append_nil ss))
  where
    append_nil : (ts : List NumberSet) → ts ++ [] ≡ ts
    append_nil [] = refl
    append_nil (t ∷ ts) = ap (λ us. t ∷ us) (append_nil ts)
after_carried s (r ∷ rs) ss h c e =
    let here = and_first (nat_lt 0 r.0 && differs s.last r.1) (is_coalesced (Some r.1) rs) c in
    let pos = lt_from 0 r.0 (and_first (nat_lt 0 r.0) (differs s.last r.1) here) in
    let set = of_rising r.1 in
    let one : fold (insert_key nat_eq) s.carried r.1 ≡ distinct nat_eq (flat_map numbers (ss ++ replicate r.0 set)) =
    ap (λ ks. fold (insert_key nat_eq) ks r.1) e
    ∙ ap (λ ns. fold (insert_key nat_eq) (distinct nat_eq (flat_map numbers ss)) ns) (sym (numbers-of_rising r.1 h.0.2))
    ∙ sym (distinct_run nat_eq eq_decides numbers set ss r.0 pos) in
    after_carried (added r s) rs (ss ++ replicate r.0 set) h.1 (and_second (nat_lt 0 r.0 && differs s.last r.1) (is_coalesced (Some r.1) rs) c) one
    ∙ ap (λ ts. distinct nat_eq (flat_map numbers ts)) (append_assoc ss (replicate r.0 set) (sets rs))

-- ---- the bytes behind the lines
abbrev pub from_runs : ℕ → Option (Runs × List ℕ) → Option (List ℕ × List ℕ)
from_runs len o = and_then o (λ r. cond (nat_lt 0 r.0.left) None (and_then (bytes len r.1) (λ b. Some (r.0.carried, b.1))))

abbrev carried_by : Option (Text × List ℕ) → Option (List ℕ × List ℕ)
carried_by o = option_map (λ p. (policies_in_order p.0, p.1)) o

bytes_case : (len : ℕ) (rs : List RunRead) (ys : List ℕ) (b : Option (List ℕ × List ℕ)) → bytes len ys ≡ b → Each IsLine rs → is_coalesced None rs ≡ true → total rs ≡ len
    → carried_by (and_then b (λ bs. Some (zip bs.0 (sets rs), bs.1))) ≡ and_then b (λ b. Some ((after (no_runs len) rs).carried, b.1))
bytes_case len rs ys None e h c t = refl
bytes_case len rs ys (Some bs) e h c t =
    let long : length bs.0 ≡ length (sets rs) = (bytes_read len ys bs.0 bs.1 e).1 ∙ sym (length_total rs ∙ t) in
    ap (λ ns. Some (ns, bs.1))
    (ap (λ ss. distinct nat_eq (flat_map numbers ss)) (sets_zipped bs.0 (sets rs) long) ∙ sym (after_carried (no_runs len) rs [] h c refl))

left_case : (len : ℕ) (rs : List RunRead) (ys : List ℕ) → Each IsLine rs → is_coalesced None rs ≡ true → total rs ≤ len
    → carried_by (cond (nat_eq (total rs) len) (and_then (bytes len ys) (λ bs. Some (zip bs.0 (sets rs), bs.1))) None)
    ≡ cond (nat_lt 0 (after (no_runs len) rs).left) None (and_then (bytes len ys) (λ b. Some ((after (no_runs len) rs).carried, b.1)))
left_case len rs ys h c le = by (nat_eq (total rs) len) refl
  where
    left : (after (no_runs len) rs).left ≡ len - total rs
    left = after_left (no_runs len) rs le

    by : (b : Bool) → nat_eq (total rs) len ≡ b
        → carried_by (cond b (and_then (bytes len ys) (λ bs. Some (zip bs.0 (sets rs), bs.1))) None)
        ≡ cond (nat_lt 0 (after (no_runs len) rs).left) None (and_then (bytes len ys) (λ b. Some ((after (no_runs len) rs).carried, b.1)))
    by true t =
        let same = eq_from (total rs) len t in
        bytes_case len rs ys (bytes len ys) refl h c same
        ∙ sym (ap (λ b. cond b None (and_then (bytes len ys) (λ b. Some ((after (no_runs len) rs).carried, b.1)))) (lt_false 0 (after (no_runs len) rs).left (let l = left in omega (arith, l, same))))
    by false t =
        sym (ap (λ b. cond b None (and_then (bytes len ys) (λ b. Some ((after (no_runs len) rs).carried, b.1)))) (lt_true 0 (after (no_runs len) rs).left
        (let ne : total rs ≢ len = λ q. false_true (sym t ∙ eq_true (total rs) len q) in let l = left in omega (arith, l, le, ne))))

runs_case : (len n : ℕ) (xs : List ℕ) (o : Option (List RunRead × List ℕ)) → runs n xs ≡ o
    → carried_by (and_then o (λ rs. cond (is_coalesced None rs.0 && nat_eq (total rs.0) len) (and_then (bytes len rs.1) (λ bs. Some (zip bs.0 (sets rs.0), bs.1))) None))
    ≡ from_runs len (finish (no_runs len) o)
runs_case len n xs None e = refl
runs_case len n xs (Some rs) e = by (is_coalesced None rs.0) refl
  where
    total_case : is_coalesced None rs.0 ≡ true → (b : Bool) → nat_le (total rs.0) len ≡ b
        → carried_by (cond (nat_eq (total rs.0) len) (and_then (bytes len rs.1) (λ bs. Some (zip bs.0 (sets rs.0), bs.1))) None)
        ≡ from_runs len (cond b (Some (after (no_runs len) rs.0, rs.1)) None)
    total_case c true t = left_case len rs.0 rs.1 (runs_read n xs rs.0 rs.1 e).lines c (le_from (total rs.0) len t)
    total_case c false t =
        let lt = le_not (total rs.0) len t in
        let other : nat_eq (total rs.0) len ≡ false = grind (arith, nat_tests) in
        ap (λ b. carried_by (cond b (and_then (bytes len rs.1) (λ bs. Some (zip bs.0 (sets rs.0), bs.1))) None)) other

    by : (b : Bool) → is_coalesced None rs.0 ≡ b
        → carried_by (cond (b && nat_eq (total rs.0) len) (and_then (bytes len rs.1) (λ bs. Some (zip bs.0 (sets rs.0), bs.1))) None)
        ≡ from_runs len (cond (b && nat_le (total rs.0) len) (Some (after (no_runs len) rs.0, rs.1)) None)
    by true c = total_case c (nat_le (total rs.0) len) refl
    by false c = refl

-- what the lines of runs and the bytes behind them carry
pub carried_is : (len count : ℕ) (xs : List ℕ) → next_carried len count xs ≡ from_runs len (next_runs count (no_runs len) xs)
carried_is len count xs = runs_case len count xs (runs count xs) refl ∙ ap (from_runs len) (sym (runs_are count (no_runs len) xs))

-- ---- what a call answers behind the lines
pub carried_exit : (len count : ℕ) (xs new end : List ℕ) (e : Stop) (r : Result (List ℕ) Stop) → IsErrAnd r (λ d. d ≡ e) → Reads {A = Runs} (next_runs count (no_runs len) xs) (Err e) new
    → Reads (next_carried len count xs) r end
carried_exit len count xs new end e r is h = let p = err_from_is_err_and r is in rw (p.1, p.2) (by e h)
  where
    by : (e : Stop) → Reads {A = Runs} (next_runs count (no_runs len) xs) (Err e) new → Reads {A = List ℕ} (next_carried len count xs) (Err e) end
    by Form h = carried_is len count xs ∙ ap (from_runs len) h
    by Memory h = tt

pub carried_left : (len count : ℕ) (xs : List ℕ) (s : Runs) (ys : List ℕ) → next_runs count (no_runs len) xs ≡ Some (s, ys) → 0 < s.left → next_carried len count xs ≡ None
carried_left len count xs s ys h lt =
    carried_is len count xs ∙ ap (from_runs len) h ∙ ap (λ b. cond b None (and_then (bytes len ys) (λ b. Some (s.carried, b.1)))) (lt_true 0 s.left lt)

carried_behind : (len count : ℕ) (xs : List ℕ) (s : Runs) (ys : List ℕ) → next_runs count (no_runs len) xs ≡ Some (s, ys) → s.left ≤ 0
    → next_carried len count xs ≡ and_then (bytes len ys) (λ b. Some (s.carried, b.1))
carried_behind len count xs s ys h le =
    carried_is len count xs ∙ ap (from_runs len) h ∙ ap (λ b. cond b None (and_then (bytes len ys) (λ b. Some (s.carried, b.1)))) (lt_false 0 s.left le)

pub carried_there : (len count : ℕ) (xs : List ℕ) (s : Runs) (ys zs : List ℕ) → next_runs count (no_runs len) xs ≡ Some (s, ys) → s.left ≤ 0 → option_map (λ p. p.1) (bytes len ys) ≡ Some zs
    → next_carried len count xs ≡ Some (s.carried, zs)
carried_there len count xs s ys zs h le p = carried_behind len count xs s ys h le ∙ by (bytes len ys) p
  where
    by : (o : Option (List ℕ × List ℕ)) → option_map (λ p. p.1) o ≡ Some zs → and_then {B = List ℕ × List ℕ} o (λ b. Some (s.carried, b.1)) ≡ Some (s.carried, zs)
    by None p = absurd (none_some zs p)
    by (Some b) p = ap (λ z. Some (s.carried, z)) (from_some b.1 zs p)

pub carried_none : (len count : ℕ) (xs : List ℕ) (s : Runs) (ys : List ℕ) → next_runs count (no_runs len) xs ≡ Some (s, ys) → s.left ≤ 0 → bytes len ys ≡ None → next_carried len count xs ≡ None
carried_none len count xs s ys h le p = carried_behind len count xs s ys h le ∙ ap (λ o. and_then o (λ b. Some (s.carried, b.1))) p
