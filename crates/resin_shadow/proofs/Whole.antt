-- A text that is written is read, so it spells one list of sets.
use Rattle.std.proofs.Common.{◌≡◌, ◌≢◌, inl, inr, ℕ, ◌+◌, ◌^◌, ◌<◌, ◌≤◌, Bool, true, false, cond, List, [], ◌∷◌, ◌++◌, length, Some, decimal, codes, refl, sym, ap, subst, ◌∙◌, arith, append_assoc, append-nil, length-append}
use Rattle.std.specs.Prelude.{◌==◌, replicate}
use Rattle.std.specs.List.{flat_map}
use Rattle.resin_frozen.specs.Policies.{IsPolicyText}
use Rattle.resin_frozen.proofs.Numbers.{from_some}
use Rattle.resin_frozen.proofs.Parts.{literal-front}
use Rattle.resin_shadow.specs.Marks.{TextSet, Marks, AreMarks, runs_of, spelled, policies, sets}
use Rattle.resin_shadow.specs.Shadows.{line, policy_lines, set_line, run_line1, run_line2, written1, written2, Spells}
use Rattle.resin_shadow.specs.Readers.{times, policy_step, set_step, run_step, run_set1, run_set2, read1, read2}
use Rattle.resin_shadow.specs.Laws.{SpellsOne}
use Rattle.resin_shadow.proofs.Versions.{has_one_version}
use Rattle.resin_shadow.proofs.Fronts.{IsSmall, IsWithin, HasPlace, natural_front, times_items, times_runs, policy_front, set_front, run_front1, run_front2}
use Rattle.resin_shadow.proofs.Marked.{spelled_runs, some_runs, runs_hold, count_of_runs, policies_are, sets_within, sets_good, sets_placed, no_policies}

few_runs : (v : Marks) → AreMarks v → IsSmall (length (runs_of v))
few_runs v h = let a = count_of_runs v in let b : length v < 2 ^ 64 = h.count in omega (arith, a, b)

whole_small : (v : Marks) → AreMarks v → IsSmall (length (spelled (runs_of v)))
whole_small v h = subst (λ w. IsSmall (length w)) (sym (spelled_runs v)) h.count

policies_read : (v : Marks) (rest : List ℕ) → AreMarks v → times policy_step (length (policies v)) [] (policy_lines (policies v) ++ rest) ≡ Some (policies v, rest)
policies_read v rest h = times_items policy_step (λ t. t ++ 10 ∷ []) IsPolicyText policy_front (policies v) [] rest (policies_are v h)

sets_read : (v : Marks) (rest : List ℕ) → AreMarks v → IsSmall (length (policies v)) → times (set_step (policies v)) (length (sets v)) [] (flat_map (set_line (policies v)) (sets v) ++ rest) ≡ Some (sets v, rest)
sets_read v rest h small =
    times_items (set_step (policies v)) (set_line (policies v)) (λ s. IsWithin (policies v) s × (s ≢ [])) (λ acc s rest g. set_front (policies v) acc s rest small g.0 g.1)
    (sets v) [] rest (sets_good v h.sets)

runs_read1 : (v : Marks) → AreMarks v → IsSmall (length (policies v))
    → times (run_step (run_set1 (policies v))) (length (runs_of v)) [] (flat_map (run_line1 (policies v)) (runs_of v) ++ []) ≡ Some (spelled (runs_of v), [])
runs_read1 v h small =
    times_runs (run_step (run_set1 (policies v))) (run_line1 (policies v)) (IsWithin (policies v)) (λ acc r rest g some total. run_front1 (policies v) acc r rest small g some total)
    (runs_of v) [] [] (runs_hold (IsWithin (policies v)) v (sets_within v h.sets)) (some_runs v) (whole_small v h)

runs_read2 : (v : Marks) → AreMarks v → IsSmall (length (sets v))
    → times (run_step (run_set2 (sets v))) (length (runs_of v)) [] (flat_map (run_line2 (sets v)) (runs_of v) ++ []) ≡ Some (spelled (runs_of v), [])
runs_read2 v h small =
    times_runs (run_step (run_set2 (sets v))) (run_line2 (sets v)) (HasPlace (sets v)) (λ acc r rest g some total. run_front2 (sets v) acc r rest small g some total)
    (runs_of v) [] [] (runs_hold (HasPlace (sets v)) v (sets_placed v)) (some_runs v) (whole_small v h)

-- ---- the first line
head1 : (a b more : List ℕ) → ((a ++ 32 ∷ b) ++ 10 ∷ []) ++ more ≡ a ++ 32 ∷ (b ++ 10 ∷ more)
head1 a b more = append_assoc (a ++ 32 ∷ b) (10 ∷ []) more ∙ append_assoc a (32 ∷ b) (10 ∷ more)

head2 : (a b c more : List ℕ) → ((a ++ 32 ∷ (b ++ 32 ∷ c)) ++ 10 ∷ []) ++ more ≡ a ++ 32 ∷ (b ++ 32 ∷ (c ++ 10 ∷ more))
head2 a b c more =
    append_assoc (a ++ 32 ∷ (b ++ 32 ∷ c)) (10 ∷ []) more ∙ append_assoc a (32 ∷ (b ++ 32 ∷ c)) (10 ∷ more) ∙ ap (λ z. a ++ 32 ∷ z) (append_assoc b (32 ∷ c) (10 ∷ more))

abbrev body1 : Marks → List ℕ
body1 v = policy_lines (policies v) ++ (flat_map (run_line1 (policies v)) (runs_of v) ++ [])

abbrev body2 : Marks → List ℕ
body2 v = policy_lines (policies v) ++ (flat_map (set_line (policies v)) (sets v) ++ (flat_map (run_line2 (sets v)) (runs_of v) ++ []))

shape1 : (v : Marks) → (length (policies v) == 0) ≡ false → written1 v ≡ codes "resin1 " ++ (decimal (length (policies v)) ++ 32 ∷ (decimal (length (runs_of v)) ++ 10 ∷ body1 v))
shape1 v h =
    ap (λ b. cond b [] (line (codes "resin1" ∷ decimal (length (policies v)) ∷ decimal (length (runs_of v)) ∷ []) ++ (policy_lines (policies v) ++ flat_map (run_line1 (policies v)) (runs_of v)))) h
    ∙ ap (λ z. line (codes "resin1" ∷ decimal (length (policies v)) ∷ decimal (length (runs_of v)) ∷ []) ++ (policy_lines (policies v) ++ z)) (sym (append-nil (flat_map (run_line1 (policies v)) (runs_of v))))
    ∙ ap (λ z. codes "resin1 " ++ z) (head1 (decimal (length (policies v))) (decimal (length (runs_of v))) (body1 v))

shape2 : (v : Marks) → (length (policies v) == 0) ≡ false
    → written2 v ≡ codes "resin2 " ++ (decimal (length (policies v)) ++ 32 ∷ (decimal (length (sets v)) ++ 32 ∷ (decimal (length (runs_of v)) ++ 10 ∷ body2 v)))
shape2 v h =
    ap (λ b. cond b [] (line (codes "resin2" ∷ decimal (length (policies v)) ∷ decimal (length (sets v)) ∷ decimal (length (runs_of v)) ∷ [])
    ++ (policy_lines (policies v) ++ (flat_map (set_line (policies v)) (sets v) ++ flat_map (run_line2 (sets v)) (runs_of v))))) h
    ∙ ap (λ z. line (codes "resin2" ∷ decimal (length (policies v)) ∷ decimal (length (sets v)) ∷ decimal (length (runs_of v)) ∷ []) ++ (policy_lines (policies v) ++ (flat_map (set_line (policies v)) (sets v) ++ z)))
    (sym (append-nil (flat_map (run_line2 (sets v)) (runs_of v))))
    ∙ ap (λ z. codes "resin2 " ++ z) (head2 (decimal (length (policies v))) (decimal (length (sets v))) (decimal (length (runs_of v))) (body2 v))

-- ---- what is written is read
read1_shaped : (v : Marks) → AreMarks v → IsSmall (length (policies v))
    → read1 (codes "resin1 " ++ (decimal (length (policies v)) ++ 32 ∷ (decimal (length (runs_of v)) ++ 10 ∷ body1 v))) ≡ Some (spelled (runs_of v))
unfolding read1
read1_shaped v h small =
    let p = length (policies v) in
    let r = length (runs_of v) in
    let e0 = literal-front (codes "resin1 ") (decimal p ++ 32 ∷ (decimal r ++ 10 ∷ body1 v)) in
    let e1 = natural_front 32 p (decimal r ++ 10 ∷ body1 v) (omega arith) small in
    let e2 = natural_front 10 r (body1 v) (omega arith) (few_runs v h) in
    let e3 = policies_read v (flat_map (run_line1 (policies v)) (runs_of v) ++ []) h in
    let e4 = runs_read1 v h small in
    rw (e0, e1, e2, e3, e4) refl

read2_shaped : (v : Marks) → AreMarks v → IsSmall (length (policies v)) → IsSmall (length (sets v))
    → read2 (codes "resin2 " ++ (decimal (length (policies v)) ++ 32 ∷ (decimal (length (sets v)) ++ 32 ∷ (decimal (length (runs_of v)) ++ 10 ∷ body2 v)))) ≡ Some (spelled (runs_of v))
unfolding read2
read2_shaped v h small few =
    let p = length (policies v) in
    let n = length (sets v) in
    let r = length (runs_of v) in
    let e0 = literal-front (codes "resin2 ") (decimal p ++ 32 ∷ (decimal n ++ 32 ∷ (decimal r ++ 10 ∷ body2 v))) in
    let e1 = natural_front 32 p (decimal n ++ 32 ∷ (decimal r ++ 10 ∷ body2 v)) (omega arith) small in
    let e2 = natural_front 32 n (decimal r ++ 10 ∷ body2 v) (omega arith) few in
    let e3 = natural_front 10 r (body2 v) (omega arith) (few_runs v h) in
    let e4 = policies_read v (flat_map (set_line (policies v)) (sets v) ++ (flat_map (run_line2 (sets v)) (runs_of v) ++ [])) h in
    let e5 = sets_read v (flat_map (run_line2 (sets v)) (runs_of v) ++ []) h small in
    let e6 = runs_read2 v h few in
    rw (e0, e1, e2, e3, e4, e5, e6) refl

-- ---- counts are small in a text that is
at_least : {X : Type 0} (text : X → List ℕ) → ((x : X) → 0 < length (text x)) → (xs : List X) → length xs ≤ length (flat_map text xs)
at_least text some [] = omega arith
at_least text some (x ∷ xs) =
    let a = at_least text some xs in
    let b : length (text x ++ flat_map text xs) ≡ length (text x) + length (flat_map text xs) = length-append (text x) (flat_map text xs) in
    let c = some x in
    omega (arith, a, b, c)

ended : (xs : List ℕ) → 0 < length (xs ++ 10 ∷ [])
ended xs = let a : length (xs ++ 10 ∷ []) ≡ length xs + 1 = length-append xs (10 ∷ []) in omega (arith, a)

behind_shorter : (xs ys : List ℕ) → length ys ≤ length (xs ++ ys)
behind_shorter xs ys = let a : length (xs ++ ys) ≡ length xs + length ys = length-append xs ys in omega (arith, a)

front_shorter : (xs ys : List ℕ) → length xs ≤ length (xs ++ ys)
front_shorter xs ys = let a : length (xs ++ ys) ≡ length xs + length ys = length-append xs ys in omega (arith, a)

few1 : (v : Marks) → (length (policies v) == 0) ≡ false → length (written1 v) < 2 ^ 64 → IsSmall (length (policies v))
few1 v some h =
    let e = ap length (shape1 v some) in
    let a = behind_shorter (decimal (length (policies v)) ++ 32 ∷ (decimal (length (runs_of v)) ++ 10 ∷ [])) (body1 v) in
    let whole : (decimal (length (policies v)) ++ 32 ∷ (decimal (length (runs_of v)) ++ 10 ∷ [])) ++ body1 v ≡ decimal (length (policies v)) ++ 32 ∷ (decimal (length (runs_of v)) ++ 10 ∷ body1 v) =
    append_assoc (decimal (length (policies v))) (32 ∷ (decimal (length (runs_of v)) ++ 10 ∷ [])) (body1 v) ∙ ap (λ z. decimal (length (policies v)) ++ 32 ∷ z) (append_assoc (decimal (length (runs_of v))) (10 ∷ []) (body1 v)) in
    let w = ap length whole in
    let b = behind_shorter (codes "resin1 ") (decimal (length (policies v)) ++ 32 ∷ (decimal (length (runs_of v)) ++ 10 ∷ body1 v)) in
    let c = front_shorter (policy_lines (policies v)) (flat_map (run_line1 (policies v)) (runs_of v) ++ []) in
    let d = at_least (λ t. t ++ 10 ∷ []) ended (policies v) in
    omega (arith, h, e, a, w, b, c, d)

few2 : (v : Marks) → (length (policies v) == 0) ≡ false → length (written2 v) < 2 ^ 64 → IsSmall (length (policies v)) × IsSmall (length (sets v))
few2 v some h =
    let e = ap length (shape2 v some) in
    let a = behind_shorter (decimal (length (policies v)) ++ 32 ∷ (decimal (length (sets v)) ++ 32 ∷ (decimal (length (runs_of v)) ++ 10 ∷ []))) (body2 v) in
    let whole : (decimal (length (policies v)) ++ 32 ∷ (decimal (length (sets v)) ++ 32 ∷ (decimal (length (runs_of v)) ++ 10 ∷ []))) ++ body2 v
    ≡ decimal (length (policies v)) ++ 32 ∷ (decimal (length (sets v)) ++ 32 ∷ (decimal (length (runs_of v)) ++ 10 ∷ body2 v)) =
    append_assoc (decimal (length (policies v))) (32 ∷ (decimal (length (sets v)) ++ 32 ∷ (decimal (length (runs_of v)) ++ 10 ∷ []))) (body2 v)
    ∙ ap (λ z. decimal (length (policies v)) ++ 32 ∷ z) (append_assoc (decimal (length (sets v))) (32 ∷ (decimal (length (runs_of v)) ++ 10 ∷ [])) (body2 v)
    ∙ ap (λ z. decimal (length (sets v)) ++ 32 ∷ z) (append_assoc (decimal (length (runs_of v))) (10 ∷ []) (body2 v))) in
    let w = ap length whole in
    let b = behind_shorter (codes "resin2 ") (decimal (length (policies v)) ++ 32 ∷ (decimal (length (sets v)) ++ 32 ∷ (decimal (length (runs_of v)) ++ 10 ∷ body2 v))) in
    let c = front_shorter (policy_lines (policies v)) (flat_map (set_line (policies v)) (sets v) ++ (flat_map (run_line2 (sets v)) (runs_of v) ++ [])) in
    let d = at_least (λ t. t ++ 10 ∷ []) ended (policies v) in
    let f = behind_shorter (policy_lines (policies v)) (flat_map (set_line (policies v)) (sets v) ++ (flat_map (run_line2 (sets v)) (runs_of v) ++ [])) in
    let g = front_shorter (flat_map (set_line (policies v)) (sets v)) (flat_map (run_line2 (sets v)) (runs_of v) ++ []) in
    let i = at_least (set_line (policies v)) (set_ended (policies v)) (sets v) in
    (omega (arith, h, e, a, w, b, c, d), omega (arith, h, e, a, w, b, f, g, i))
  where
    set_ended : (T : List (List ℕ)) (s : TextSet) → 0 < length (set_line T s)
    set_ended T s = ended _

-- ---- a text is written in one way at most
pub read1_written : (x : List ℕ) (v : Marks) → length x < 2 ^ 64 → AreMarks v → x ≡ written1 v → x ≢ [] → read1 x ≡ Some v
read1_written x v small h e some = by (length (policies v) == 0) refl
  where
    by : (b : Bool) → (length (policies v) == 0) ≡ b → read1 x ≡ Some v
    by true z = absurd (some (e ∙ ap (λ b. cond b [] (line (codes "resin1" ∷ decimal (length (policies v)) ∷ decimal (length (runs_of v)) ∷ []) ++ (policy_lines (policies v) ++ flat_map (run_line1 (policies v)) (runs_of v)))) z))
    by false z = ap read1 (e ∙ shape1 v z) ∙ read1_shaped v h (few1 v z (subst (λ y. length y < 2 ^ 64) e small)) ∙ ap Some (spelled_runs v)

pub read2_written : (x : List ℕ) (v : Marks) → length x < 2 ^ 64 → AreMarks v → x ≡ written2 v → x ≢ [] → read2 x ≡ Some v
read2_written x v small h e some = by (length (policies v) == 0) refl
  where
    by : (b : Bool) → (length (policies v) == 0) ≡ b → read2 x ≡ Some v
    by true z =
        absurd (some (e ∙ ap (λ b. cond b [] (line (codes "resin2" ∷ decimal (length (policies v)) ∷ decimal (length (sets v)) ∷ decimal (length (runs_of v)) ∷ [])
        ++ (policy_lines (policies v) ++ (flat_map (set_line (policies v)) (sets v) ++ flat_map (run_line2 (sets v)) (runs_of v))))) z))
    by false z =
        let f = few2 v z (subst (λ y. length y < 2 ^ 64) e small) in
        ap read2 (e ∙ shape2 v z) ∙ read2_shaped v h f.0 f.1 ∙ ap Some (spelled_runs v)

no_text1 : (v : Marks) → written1 v ≡ [] → v ≡ replicate (length v) []
no_text1 v e = by (length (policies v) == 0) refl
  where
    by : (b : Bool) → (length (policies v) == 0) ≡ b → v ≡ replicate (length v) []
    by true z = no_policies v z
    by false z = absurd (let d : [] ≡ codes "resin1 " ++ (decimal (length (policies v)) ++ 32 ∷ (decimal (length (runs_of v)) ++ 10 ∷ body1 v)) = sym e ∙ shape1 v z in cc)

no_text2 : (v : Marks) → written2 v ≡ [] → v ≡ replicate (length v) []
no_text2 v e = by (length (policies v) == 0) refl
  where
    by : (b : Bool) → (length (policies v) == 0) ≡ b → v ≡ replicate (length v) []
    by true z = no_policies v z
    by false z = absurd (let d : [] ≡ codes "resin2 " ++ (decimal (length (policies v)) ++ 32 ∷ (decimal (length (sets v)) ++ 32 ∷ (decimal (length (runs_of v)) ++ 10 ∷ body2 v))) = sym e ∙ shape2 v z in cc)

no_text : (v : Marks) → Spells [] v → v ≡ replicate (length v) []
no_text v (inl e) = no_text1 v (sym e)
no_text v (inr e) = no_text2 v (sym e)

pub spells_one : SpellsOne
spells_one [] v w small hv hw len a b = no_text v a ∙ ap (λ n. replicate n []) len ∙ sym (no_text w b)
spells_one (x ∷ xs) v w small hv hw len a b = by a b
  where
    some : x ∷ xs ≢ []
    some e = cc

    by : Spells (x ∷ xs) v → Spells (x ∷ xs) w → v ≡ w
    by (inl a) (inl b) = from_some v w (sym (read1_written (x ∷ xs) v small hv a some) ∙ read1_written (x ∷ xs) w small hw b some)
    by (inr a) (inr b) = from_some v w (sym (read2_written (x ∷ xs) v small hv a some) ∙ read2_written (x ∷ xs) w small hw b some)
    by (inl a) (inr b) = absurd (some (has_one_version (x ∷ xs) v w a b))
    by (inr a) (inl b) = absurd (some (has_one_version (x ∷ xs) w v b a))
