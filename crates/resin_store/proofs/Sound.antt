-- What is read of a shadow text is a list of sets of policy texts.
use Rattle.std.proofs.Common.{◌≡◌, ℕ, zero, suc, ◌+◌, ◌^◌, ◌<◌, Bool, true, false, cond, List, [], ◌∷◌, ◌++◌, length, Option, Some, None, refl, sym, ap, subst, ◌∙◌, arith, length-append}
use Rattle.std.specs.Prelude.{nat_eq, nat_lt, replicate, slice_get, codes}
use Rattle.std.specs.BTreeSet.{insert_key}
use Rattle.std.specs.List.{fold, AllByRecursion}
use Rattle.std.specs.List.Sorted.{IsStrictlySortedBy}
use Rattle.std.specs.Ordering.{ordering_reverse, match_ordering}
use Rattle.std.specs.Cmp.{IsTotalOrder}
use Rattle.std.specs.Cmp.Lexicographic.{nat_list_cmp_total}
use Rattle.std.specs.declared.cmp.Ordering.{Ordering}
use Rattle.std.specs.declared.cmp.Ordering.TheVariants.{Less, Equal, Greater}
use Rattle.std.proofs.lemmas.Bool.Decides.{nat_tests}
use Rattle.std.proofs.lemmas.List.{length-replicate}
use Rattle.resin_frozen.specs.Policies.{IsPolicyText}
use Rattle.resin_frozen.specs.Reading.{Read, and_then, literal, cut, number, natural, front}
use Rattle.resin_frozen.proofs.Numbers.{from_some, none_some}
use Rattle.resin_frozen.proofs.Parts.{bound}
use Rattle.resin_frozen.proofs.One_text.{front_read}
use Rattle.resin_shadow.specs.Marks.{TextSet, IsTextSet, Marks, Each, AreMarks}
use Rattle.resin_shadow.specs.Runs.{set_of}
use Rattle.resin_shadow.specs.Readers.{times, policy_step, text_told, texts_told, set_told, words, set_step, run_parts, run_set1, run_set2, longer, pushed, run_step, read1, read2}
use Rattle.resin_shadow.proofs.Kept.{each_at, each-append}

-- what each step keeps holds after as many
times_keep : {A : Type 0} (P : A → Type 0) (step : A → Read A) → ((a b : A) (xs ys : List ℕ) → P a → step a xs ≡ Some (b, ys) → P b)
    → (n : ℕ) (a b : A) (xs ys : List ℕ) → P a → times step n a xs ≡ Some (b, ys) → P b
times_keep P step keep zero a b xs ys h e = subst P (ap (λ p. p.0) (from_some (a, xs) (b, ys) e)) h
times_keep P step keep (suc n) a b xs ys h e =
    let p = bound (step a xs) (λ p. times step n p.0 p.1) (b, ys) e in
    times_keep P step keep n p.0.0 b p.0.1 ys (keep a p.0.0 xs p.0.1 h p.1) p.2

policy_kept : (acc acc' : List (List ℕ)) (xs ys : List ℕ) → Each IsPolicyText acc → policy_step acc xs ≡ Some (acc', ys) → Each IsPolicyText acc'
unfolding policy_step
policy_kept acc acc' xs ys h e =
    let p = bound (front xs) (λ t. and_then (literal (codes "\n") t.1) (λ e. Some (acc ++ t.0 ∷ [], e.1))) (acc', ys) e in
    let q = bound (literal (codes "\n") p.0.1) (λ e. Some (acc ++ p.0.0 ∷ [], e.1)) (acc', ys) p.2 in
    let is = ap (λ (r : List (List ℕ) × List ℕ). r.0) (from_some (acc ++ p.0.0 ∷ [], q.0.1) (acc', ys) q.2) in
    subst (Each IsPolicyText) is (each-append IsPolicyText acc (p.0.0 ∷ []) h ((front_read xs p.0.0 p.0.1 p.1).1, tt))

one_told : (table : List (List ℕ)) (w x : List ℕ) → Each IsPolicyText table → text_told table w ≡ Some x → IsPolicyText x
unfolding text_told
one_told table w x t e = let q = bound (number w) (λ n. slice_get table n) x e in each_at IsPolicyText table q.0 x t q.2

told_kept : (table acc : List (List ℕ)) (ws out : List (List ℕ)) → Each IsPolicyText table → Each IsPolicyText acc → texts_told table acc ws ≡ Some out → Each IsPolicyText out
told_kept table acc [] out t h e = subst (Each IsPolicyText) (from_some acc out e) h
told_kept table acc (w ∷ ws) out t h e =
    let p = bound (text_told table w) (λ t. texts_told table (acc ++ t ∷ []) ws) out e in
    told_kept table (acc ++ p.0 ∷ []) ws out t (each-append IsPolicyText acc (p.0 ∷ []) h (one_told table w p.0 t p.1, tt)) p.2

-- ---- sets
module _ {K : Type 0} {R : K → K → Ordering} (o : IsTotalOrder R) where
  abbrev IsBelow : K → List K → Type 0
  IsBelow x ys = AllByRecursion (λ y. R x y ≡ Less) ys

  lower : (k x : K) (ys : List K) → R k x ≡ Less → IsBelow x ys → IsBelow k ys
  lower k x [] e h = tt
  lower k x (y ∷ ys) e h = (o.trans k x y e h.0, lower k x ys e h.1)

  below_insert : (x k : K) (ys : List K) → R x k ≡ Less → IsBelow x ys → IsBelow x (insert_key R ys k)
  below_insert x k [] e h = (e, tt)
  below_insert x k (y ∷ ys) e h = by (R k y) (below_insert x k ys e h.1)
    where
      by : (r : Ordering) → IsBelow x (insert_key R ys k) → IsBelow x (match_ordering r (k ∷ y ∷ ys) (y ∷ ys) (y ∷ insert_key R ys k))
      by Less z = (e, h)
      by Equal z = h
      by Greater z = (h.0, z)

  less_put : (y k : K) (ys : List K) → R k y ≡ Less → IsStrictlySortedBy R (y ∷ ys) → IsStrictlySortedBy R (k ∷ y ∷ ys)
  unfolding IsStrictlySortedBy
  less_put y k ys e h = ((e, lower k y ys e h.0), h)

  greater_put : (y k : K) (ys : List K) → R k y ≡ Greater → IsStrictlySortedBy R (y ∷ ys) → IsStrictlySortedBy R (insert_key R ys k) → IsStrictlySortedBy R (y ∷ insert_key R ys k)
  unfolding IsStrictlySortedBy
  greater_put y k ys e h z = (below_insert y k ys (o.antisymm y k ∙ ap ordering_reverse e) h.0, z)

  tail_sorted : (y : K) (ys : List K) → IsStrictlySortedBy R (y ∷ ys) → IsStrictlySortedBy R ys
  unfolding IsStrictlySortedBy
  tail_sorted y ys h = h.1

  one_sorted : (k : K) → IsStrictlySortedBy R (k ∷ [])
  unfolding IsStrictlySortedBy
  one_sorted k = (tt, tt)

  sorted_insert : (ys : List K) (k : K) → IsStrictlySortedBy R ys → IsStrictlySortedBy R (insert_key R ys k)
  sorted_insert [] k h = one_sorted k
  sorted_insert (y ∷ ys) k h = by (R k y) refl (sorted_insert ys k (tail_sorted y ys h))
    where
      by : (r : Ordering) → R k y ≡ r → IsStrictlySortedBy R (insert_key R ys k) → IsStrictlySortedBy R (match_ordering r (k ∷ y ∷ ys) (y ∷ ys) (y ∷ insert_key R ys k))
      by Less e z = less_put y k ys e h
      by Equal e z = h
      by Greater e z = greater_put y k ys e h z

  sorted_fold : (ks ys : List K) → IsStrictlySortedBy R ys → IsStrictlySortedBy R (fold (insert_key R) ys ks)
  sorted_fold [] ys h = h
  sorted_fold (k ∷ ks) ys h = sorted_fold ks (insert_key R ys k) (sorted_insert ys k h)

  each_insert : (P : K → Type 0) (ys : List K) (k : K) → Each P ys → P k → Each P (insert_key R ys k)
  each_insert P [] k h p = (p, tt)
  each_insert P (y ∷ ys) k h p = by (R k y) (each_insert P ys k h.1 p)
    where
      by : (r : Ordering) → Each P (insert_key R ys k) → Each P (match_ordering r (k ∷ y ∷ ys) (y ∷ ys) (y ∷ insert_key R ys k))
      by Less z = (p, h)
      by Equal z = h
      by Greater z = (h.0, z)

  each_fold : (P : K → Type 0) (ks ys : List K) → Each P ys → Each P ks → Each P (fold (insert_key R) ys ks)
  each_fold P [] ys h p = h
  each_fold P (k ∷ ks) ys h p = each_fold P ks (insert_key R ys k) (each_insert P ys k h p.0) p.1

-- a set of policy texts
abbrev IsGood : TextSet → Type 0
IsGood s = IsTextSet s × Each IsPolicyText s

nothing_good : IsGood []
unfolding IsStrictlySortedBy
nothing_good = (tt, tt)

set_good : (ts : List (List ℕ)) → Each IsPolicyText ts → IsGood (set_of ts)
unfolding IsStrictlySortedBy
set_good ts h = (sorted_fold nat_list_cmp_total ts [] tt, each_fold nat_list_cmp_total IsPolicyText ts [] tt h)

set_told_good : (table : List (List ℕ)) (l : List ℕ) (s : TextSet) → Each IsPolicyText table → set_told table l ≡ Some s → IsGood s
unfolding set_told
set_told_good table l s t e =
    let p = bound (texts_told table [] (words l)) (λ ts. Some (set_of ts)) s e in
    subst IsGood (from_some (set_of p.0) s p.2) (set_good p.0 (told_kept table [] (words l) p.0 t tt p.1))

sets_kept : (table : List (List ℕ)) → Each IsPolicyText table → (acc acc' : List TextSet) (xs ys : List ℕ) → Each IsGood acc → set_step table acc xs ≡ Some (acc', ys) → Each IsGood acc'
unfolding set_step
sets_kept table t acc acc' xs ys h e =
    let p = bound (cut 10 xs) (λ l. and_then (set_told table l.0) (λ s. Some (acc ++ s ∷ [], l.1))) (acc', ys) e in
    let q = bound (set_told table p.0.0) (λ s. Some (acc ++ s ∷ [], p.0.1)) (acc', ys) p.2 in
    let is = ap (λ (r : List TextSet × List ℕ). r.0) (from_some (acc ++ q.0 ∷ [], p.0.1) (acc', ys) q.2) in
    subst (Each IsGood) is (each-append IsGood acc (q.0 ∷ []) h (set_told_good table p.0.0 q.0 t q.1, tt))

run_good1 : (table : List (List ℕ)) → Each IsPolicyText table → (o : Option (List ℕ)) (s : TextSet) → run_set1 table o ≡ Some s → IsGood s
run_good1 table t None s e = subst IsGood (from_some [] s e) nothing_good
run_good1 table t (Some l) s e = set_told_good table l s t e

run_good2 : (table : List TextSet) → Each IsGood table → (o : Option (List ℕ)) (s : TextSet) → run_set2 table o ≡ Some s → IsGood s
run_good2 table t None s e = subst IsGood (from_some [] s e) nothing_good
run_good2 table t (Some w) s e = let q = bound (number w) (λ k. slice_get table k) s e in each_at IsGood table q.0 s t q.2

-- ---- marks
each_same : {X : Type 0} (P : X → Type 0) (n : ℕ) (x : X) → P x → Each P (replicate n x)
each_same P zero x h = tt
each_same P (suc n) x h = (h, each_same P n x h)

-- sets of policy texts for not too many bytes
record AreGood (v : Marks) : Type 0 where
  each : Each IsGood v
  count : length v < 2 ^ 64

below_from : (a b : ℕ) → nat_lt a b ≡ true → a < b
below_from a b t = grind (arith, nat_tests)

longer_good : (v w : Marks) (n : ℕ) (s : TextSet) → AreGood v → IsGood s → longer v (n, s) ≡ Some w → AreGood w
unfolding longer
longer_good v w n s h g e = by (nat_eq n 0) (nat_lt (length v + n) (2 ^ 64)) refl e
  where
    count : nat_lt (length v + n) (2 ^ 64) ≡ true → length (v ++ replicate n s) < 2 ^ 64
    count t =
        let a : length v + n < 2 ^ 64 = below_from (length v + n) (2 ^ 64) t in
        let b : length (v ++ replicate n s) ≡ length v + length (replicate n s) = length-append v (replicate n s) in
        let c : length (replicate n s) ≡ n = length-replicate n s in
        omega (arith, a, b, c)

    by : (a b : Bool) → nat_lt (length v + n) (2 ^ 64) ≡ b → cond a None (cond b (Some (v ++ replicate n s)) None) ≡ Some w → AreGood w
    by true b t f = absurd (none_some w f)
    by false false t f = absurd (none_some w f)
    by false true t f = subst AreGood (from_some (v ++ replicate n s) w f) (record {
      each = each-append IsGood v (replicate n s) h.each (each_same IsGood n s g);
      count = count t;
    })

runs_kept : (told : Option (List ℕ) → Option TextSet) → ((o : Option (List ℕ)) (s : TextSet) → told o ≡ Some s → IsGood s)
    → (acc acc' : Marks) (xs ys : List ℕ) → AreGood acc → run_step told acc xs ≡ Some (acc', ys) → AreGood acc'
unfolding run_step
runs_kept told good acc acc' xs ys h e =
    let p = bound (cut 10 xs) (λ l. and_then (run_parts l.0) (λ p. and_then (pushed acc told p) (λ v. Some (v, l.1)))) (acc', ys) e in
    let q = bound (run_parts p.0.0) (λ r. and_then (pushed acc told r) (λ v. Some (v, p.0.1))) (acc', ys) p.2 in
    let r = bound (pushed acc told q.0) (λ v. Some (v, p.0.1)) (acc', ys) q.2 in
    let s = bound (told q.0.1) (λ s. longer acc (q.0.0, s)) r.0 r.1 in
    let is = ap (λ (m : Marks × List ℕ). m.0) (from_some (r.0, p.0.1) (acc', ys) r.2) in
    subst AreGood is (longer_good acc r.0 q.0.0 s.0 h (good q.0.1 s.0 s.1) s.2)

no_bytes : AreGood []
no_bytes = record { each = tt; count = omega arith }

are_marks : (v : Marks) → AreGood v → AreMarks v
are_marks v h = record { sets = firsts v h.each; policies = seconds v h.each; count = h.count }
  where
    firsts : (v : Marks) → Each IsGood v → Each IsTextSet v
    firsts [] h = tt
    firsts (s ∷ v) h = (h.0.0, firsts v h.1)

    seconds : (v : Marks) → Each IsGood v → Each (Each IsPolicyText) v
    seconds [] h = tt
    seconds (s ∷ v) h = (h.0.1, seconds v h.1)

pub marks_read1 : (x : List ℕ) (v : Marks) → read1 x ≡ Some v → AreMarks v
unfolding read1
marks_read1 x v e =
    let a = bound (literal (codes "resin1 ") x) _ v e in
    let b = bound (natural 32 a.0.1) _ v a.2 in
    let c = bound (natural 10 b.0.1) _ v b.2 in
    let t = bound (times policy_step b.0.0 [] c.0.1) _ v c.2 in
    let r = bound (times (run_step (run_set1 t.0.0)) c.0.0 [] t.0.1) (λ w. Some w.0) v t.2 in
    let table = times_keep (Each IsPolicyText) policy_step policy_kept b.0.0 [] t.0.0 c.0.1 t.0.1 tt t.1 in
    let runs = times_keep AreGood (run_step (run_set1 t.0.0)) (runs_kept (run_set1 t.0.0) (run_good1 t.0.0 table)) c.0.0 [] r.0.0 t.0.1 r.0.1 no_bytes r.1 in
    subst AreMarks (from_some r.0.0 v r.2) (are_marks r.0.0 runs)

pub marks_read2 : (x : List ℕ) (v : Marks) → read2 x ≡ Some v → AreMarks v
unfolding read2
marks_read2 x v e =
    let a = bound (literal (codes "resin2 ") x) _ v e in
    let b = bound (natural 32 a.0.1) _ v a.2 in
    let n = bound (natural 32 b.0.1) _ v b.2 in
    let c = bound (natural 10 n.0.1) _ v n.2 in
    let t = bound (times policy_step b.0.0 [] c.0.1) _ v c.2 in
    let k = bound (times (set_step t.0.0) n.0.0 [] t.0.1) _ v t.2 in
    let r = bound (times (run_step (run_set2 k.0.0)) c.0.0 [] k.0.1) (λ w. Some w.0) v k.2 in
    let table = times_keep (Each IsPolicyText) policy_step policy_kept b.0.0 [] t.0.0 c.0.1 t.0.1 tt t.1 in
    let sets = times_keep (Each IsGood) (set_step t.0.0) (sets_kept t.0.0 table) n.0.0 [] k.0.0 t.0.1 k.0.1 tt k.1 in
    let runs = times_keep AreGood (run_step (run_set2 k.0.0)) (runs_kept (run_set2 k.0.0) (run_good2 k.0.0 sets)) c.0.0 [] r.0.0 k.0.1 r.0.1 no_bytes r.1 in
    subst AreMarks (from_some r.0.0 v r.2) (are_marks r.0.0 runs)

-- no policies
pub no_marks : (n : ℕ) → n < 2 ^ 64 → AreMarks (replicate n [])
no_marks n h = are_marks (replicate n []) (record { each = each_same IsGood n [] nothing_good; count = subst (λ k. k < 2 ^ 64) (sym (length-replicate n [])) h })
