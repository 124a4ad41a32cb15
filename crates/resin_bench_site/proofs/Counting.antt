-- The trace of one number more.
use Rattle.std.proofs.Common.{◌≡◌, ℕ, zero, suc, ◌+◌, ◌-◌, ◌≤◌, List, ◌++◌, sym, ap, ◌∙◌, rules, arith}
use Rattle.std.proofs.lemmas.List.{append_assoc}
use Rattle.std.specs.List.{flat_map, range_with_len}
use Rattle.resin_bench_site.specs.Trace.{records_for, trace_text}

-- one number more puts its part last
parts_more : {A : Type 0} (f : ℕ → List A) (a n : ℕ) → flat_map f (range_with_len a (suc n)) ≡ flat_map f (range_with_len a n) ++ f (a + n)
parts_more f a zero = search rules
parts_more f a (suc n) =
    ap (λ part. f a ++ part) (parts_more f (a + 1) n) ∙ sym (append_assoc (f a) (flat_map f (range_with_len (a + 1) n)) (f (a + 1 + n)))
    ∙ ap (λ k. flat_map f (range_with_len a (suc n)) ++ f k) (let e : a + 1 + n ≡ a + suc n = omega arith in e)

trace_more : (n : ℕ) → trace_text (suc n) ≡ trace_text n ++ records_for (suc n)
unfolding trace_text
trace_more n = parts_more records_for 1 n ∙ ap (λ k. trace_text n ++ records_for k) (let e : 1 + n ≡ suc n = omega arith in e)

-- the trace up to a number, of that up to the one before
pub trace_grown : (k m : ℕ) (before now : List ℕ) → 1 ≤ k → before ≡ trace_text (k - 1) → now ≡ before ++ records_for k → m ≡ k → now ≡ trace_text m
trace_grown zero m before now h e g same = absurd (omega arith)
trace_grown (suc n) m before now h e g same =
    g ∙ ap (λ text. text ++ records_for (suc n)) (e ∙ ap trace_text (let one : suc n - 1 ≡ n = omega arith in one)) ∙ sym (trace_more n) ∙ ap trace_text (sym same)
