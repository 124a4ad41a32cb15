-- What is written by numbers is the text of the marks.
use Rattle.std.proofs.Common.{◌≡◌, ◌≢◌, ℕ, suc, true, false, cond, List, [], ◌∷◌, ◌++◌, length, map, decimal, codes, refl, sym, ap, subst, ◌∙◌, append_assoc, arith}
use Rattle.std.specs.Prelude.{◌==◌, nat_eq}
use Rattle.std.specs.List.{fold, flat_map, join_with_byte}
use Rattle.std.specs.Str.{bytes_eq}
use Rattle.std.specs.BTreeSet.{insert_key}
use Rattle.std.specs.Ordering.{nat_cmp}
use Rattle.std.proofs.lemmas.Bool.Decides.{nat_tests}
use Rattle.resin_shadow.specs.declared.table.FrozenRun.{FrozenRun}
use Rattle.resin_shadow.specs.declared.table.Table.{Table}
use Rattle.resin_shadow.specs.Marks.{TextSet, Marks, Each, same_set, runs_of, policies, sets}
use Rattle.resin_shadow.specs.Shadows.{line, place, places, policy_lines, set_line, run_line1, run_line2, written1, written2}
use Rattle.resin_shadow.specs.Runs.{run_of, marks_of, Related, HasNumber, AreTextsAt, HasKind, IsKind, IsTable}
use Rattle.resin_shadow.specs.Printed.{numbered, sets_met, texts_met, rising, policies_text, set_text, run_text1, run_text2}
use Rattle.resin_shadow.proofs.Maximal.{runs_spelled}
use Rattle.resin_shadow.proofs.Kept.{each_map, marks_of_table}
use Rattle.resin_shadow.proofs.First_met.{place_related, related_length, kinds_agree, numbers_agree, sets_related, texts_related, numbered_is}
use Rattle.resin_shadow.proofs.Places.{AreIn, places_rise}
use Rattle.resin_shadow.proofs.Fronts.{IsWithin}
use Rattle.resin_shadow.proofs.Marked.{policies_apart, sets_within, sets_good, runs_hold}

-- a line of numbers, the first before the others
pub line_words : (first : List ℕ) (ns : List ℕ) → line (first ∷ map decimal ns) ≡ first ++ (flat_map (λ n. 32 ∷ decimal n) ns ++ 10 ∷ [])
line_words first [] = refl
line_words first (n ∷ ns) = append_assoc first (32 ∷ join_with_byte 32 (map decimal (n ∷ ns))) (10 ∷ []) ∙ ap (λ z. first ++ 32 ∷ z) (line_words (decimal n) ns ∙ sym (append_assoc (decimal n) (flat_map (λ n. 32 ∷ decimal n) ns) (10 ∷ [])))

policies_printed : (texts : List (List ℕ)) (ns : List ℕ) (ts : List (List ℕ)) → Related (HasNumber texts) ns ts → policies_text texts ns ≡ policy_lines ts
policies_printed texts [] [] h = refl
policies_printed texts [] (t ∷ ts) h = absurd h
policies_printed texts (n ∷ ns) [] h = absurd h
policies_printed texts (n ∷ ns) (t ∷ ts) h = ap (λ x. (x ++ 10 ∷ []) ++ policies_text texts ns) (numbered_is texts n t h.0) ∙ ap (λ z. (t ++ 10 ∷ []) ++ z) (policies_printed texts ns ts h.1)

module _ (t : Table) (h : IsTable t) where
  abbrev V : Marks
  V = marks_of t.runs.items

  abbrev T : List (List ℕ)
  T = policies V

  abbrev S : List TextSet
  S = sets V

  abbrev K : List ℕ
  K = sets_met t.runs.items

  abbrev M : List ℕ
  M = texts_met t.sets.keys K

  places_same : (ns : List ℕ) (s : TextSet) → AreTextsAt t.texts.keys ns s → map (λ n. place nat_eq n M) ns ≡ map (λ x. place bytes_eq x T) s
  places_same [] [] a = refl
  places_same [] (x ∷ s) a = absurd a
  places_same (n ∷ ns) [] a = absurd a
  places_same (n ∷ ns) (x ∷ s) a =
      ap (λ p. p ∷ map (λ n. place nat_eq n M) ns) (place_related (HasNumber t.texts.keys) nat_eq bytes_eq (λ a c b d. numbers_agree t h a c b d) n x M T a.0 (texts_related t h))
      ∙ ap (λ ps. place bytes_eq x T ∷ ps) (places_same ns s a.1)

  pub rising_is : (k : ℕ) (s : TextSet) → HasKind t.sets.keys t.texts.keys k s → AreIn T s → rising M (numbered t.sets.keys k) ≡ places T s
  rising_is k s a i =
      ap (rising M) (numbered_is t.sets.keys k a.0 a.1) ∙ ap (fold (insert_key nat_cmp) []) (places_same a.0 s a.2) ∙ places_rise T s (policies_apart V) i

  sets_printed : (ks : List ℕ) (ss : List TextSet) → Related (HasKind t.sets.keys t.texts.keys) ks ss → Each (AreIn T) ss → flat_map (set_text t.sets.keys M) ks ≡ flat_map (set_line T) ss
  sets_printed [] [] r i = refl
  sets_printed [] (s ∷ ss) r i = absurd r
  sets_printed (k ∷ ks) [] r i = absurd r
  sets_printed (k ∷ ks) (s ∷ ss) r i =
      ap (λ ps. line (map decimal ps) ++ flat_map (set_text t.sets.keys M) ks) (rising_is k s r.0 i.0) ∙ ap (λ z. set_line T s ++ z) (sets_printed ks ss r.1 i.1)

  run_printed2 : (r : FrozenRun) → IsKind t r.kind r.set → run_text2 K r ≡ run_line2 S (run_of r)
  run_printed2 r a = ap (λ p. line (decimal r.len ∷ cond (length r.set == 0) [] (decimal p ∷ [])))
      (place_related (HasKind t.sets.keys t.texts.keys) nat_eq same_set (λ a c b d. kinds_agree t h a c b d) r.kind r.set K S a.0 (sets_related t h))

  runs_printed2 : (rs : List FrozenRun) → Each (λ r. IsKind t r.kind r.set) rs → flat_map (run_text2 K) rs ≡ flat_map (run_line2 S) (map run_of rs)
  runs_printed2 [] a = refl
  runs_printed2 (r ∷ rs) a = ap (λ z. z ++ flat_map (run_text2 K) rs) (run_printed2 r a.0) ∙ ap (λ z. run_line2 S (run_of r) ++ z) (runs_printed2 rs a.1)

  runs_printed1 : (rs : List FrozenRun) → Each (λ r. IsKind t r.kind r.set) rs → Each (λ r. AreIn T r.1) (map run_of rs) → flat_map (run_text1 t.sets.keys M) rs ≡ flat_map (run_line1 T) (map run_of rs)
  runs_printed1 [] a i = refl
  runs_printed1 (r ∷ rs) a i =
      ap (λ ps. line (decimal r.len ∷ map decimal ps) ++ flat_map (run_text1 t.sets.keys M) rs) (rising_is r.kind r.set a.0.0 i.0)
      ∙ ap (λ z. run_line1 T (run_of r) ++ z) (runs_printed1 rs a.1 i.1)

  runs_are : runs_of V ≡ map run_of t.runs.items
  runs_are = runs_spelled (map run_of t.runs.items) h.maximal

  count_same : (rs : List FrozenRun) → length (map run_of rs) ≡ length rs
  count_same [] = refl
  count_same (r ∷ rs) = ap suc (count_same rs)

  count_runs : length t.runs.items ≡ length (runs_of V)
  count_runs = sym (ap length runs_are ∙ count_same t.runs.items)

  count_sets : length K ≡ length S
  count_sets = related_length (HasKind t.sets.keys t.texts.keys) K S (sets_related t h)

  count_texts : length M ≡ length T
  count_texts = related_length (HasNumber t.texts.keys) M T (texts_related t h)

  within : Each (IsWithin T) V
  within = sets_within V (marks_of_table t h).sets

  pub runs_in : Each (λ r. AreIn T r.1) (map run_of t.runs.items)
  runs_in = subst (Each (λ r. AreIn T r.1)) runs_are (runs_hold (AreIn T) V (each_map (IsWithin T) (AreIn T) V (λ s p. p.there) within))

  sets_in : Each (AreIn T) S
  sets_in = each_map (λ s. IsWithin T s × (s ≢ [])) (AreIn T) S (λ s p. p.0.there) (sets_good V (marks_of_table t h).sets)

  pub nothing_written1 : length M ≡ 0 → [] ≡ written1 V
  nothing_written1 e = sym (ap (λ b. cond b [] (line (codes "resin1" ∷ decimal (length T) ∷ decimal (length (runs_of V)) ∷ []) ++ (policy_lines T ++ flat_map (run_line1 T) (runs_of V)))) (is_zero (sym count_texts ∙ e)))
    where
      is_zero : {n : ℕ} → n ≡ 0 → (n == 0) ≡ true
      is_zero e = ap (λ n. n == 0) e

  pub nothing_written2 : length M ≡ 0 → [] ≡ written2 V
  nothing_written2 e =
      sym (ap (λ b. cond b [] (line (codes "resin2" ∷ decimal (length T) ∷ decimal (length S) ∷ decimal (length (runs_of V)) ∷ []) ++ (policy_lines T ++ (flat_map (set_line T) S ++ flat_map (run_line2 S) (runs_of V))))) (is_zero (sym count_texts ∙ e)))
    where
      is_zero : {n : ℕ} → n ≡ 0 → (n == 0) ≡ true
      is_zero e = ap (λ n. n == 0) e

  some_texts : (length M ≡ 0 → ⊥) → (length T == 0) ≡ false
  some_texts h = ap (λ n. n == 0) (sym count_texts) ∙ not_zero (length M) h
    where
      not_zero : (n : ℕ) → (n ≡ 0 → ⊥) → (n == 0) ≡ false
      not_zero n h = grind (arith, nat_tests)

  pub whole1 : (length M ≡ 0 → ⊥)
      → ((codes "resin1 " ++ line (decimal (length M) ∷ map decimal (length t.runs.items ∷ []))) ++ policies_text t.texts.keys M) ++ flat_map (run_text1 t.sets.keys M) t.runs.items ≡ written1 V
  whole1 z =
      append_assoc (codes "resin1 " ++ line (decimal (length M) ∷ map decimal (length t.runs.items ∷ []))) (policies_text t.texts.keys M) (flat_map (run_text1 t.sets.keys M) t.runs.items)
      ∙ append_assoc (codes "resin1 ") (line (decimal (length M) ∷ map decimal (length t.runs.items ∷ []))) (policies_text t.texts.keys M ++ flat_map (run_text1 t.sets.keys M) t.runs.items)
      ∙ ap (λ n. codes "resin1 " ++ (line (decimal n ∷ decimal (length t.runs.items) ∷ []) ++ (policies_text t.texts.keys M ++ flat_map (run_text1 t.sets.keys M) t.runs.items))) count_texts
      ∙ ap (λ n. codes "resin1 " ++ (line (decimal (length T) ∷ decimal n ∷ []) ++ (policies_text t.texts.keys M ++ flat_map (run_text1 t.sets.keys M) t.runs.items))) count_runs
      ∙ ap (λ y. codes "resin1 " ++ (line (decimal (length T) ∷ decimal (length (runs_of V)) ∷ []) ++ (y ++ flat_map (run_text1 t.sets.keys M) t.runs.items))) (policies_printed t.texts.keys M T (texts_related t h))
      ∙ ap (λ y. codes "resin1 " ++ (line (decimal (length T) ∷ decimal (length (runs_of V)) ∷ []) ++ (policy_lines T ++ y))) (runs_printed1 t.runs.items h.kinds_are runs_in ∙ ap (flat_map (run_line1 T)) (sym runs_are))
      ∙ sym (ap (λ b. cond b [] (line (codes "resin1" ∷ decimal (length T) ∷ decimal (length (runs_of V)) ∷ []) ++ (policy_lines T ++ flat_map (run_line1 T) (runs_of V)))) (some_texts z))

  pub whole2 : (length M ≡ 0 → ⊥)
      → (((codes "resin2 " ++ line (decimal (length M) ∷ map decimal (length K ∷ length t.runs.items ∷ []))) ++ policies_text t.texts.keys M) ++ flat_map (set_text t.sets.keys M) K) ++ flat_map (run_text2 K) t.runs.items ≡ written2 V
  whole2 z =
      append_assoc ((codes "resin2 " ++ line (decimal (length M) ∷ map decimal (length K ∷ length t.runs.items ∷ []))) ++ policies_text t.texts.keys M) (flat_map (set_text t.sets.keys M) K) (flat_map (run_text2 K) t.runs.items)
      ∙ append_assoc (codes "resin2 " ++ line (decimal (length M) ∷ map decimal (length K ∷ length t.runs.items ∷ []))) (policies_text t.texts.keys M) (flat_map (set_text t.sets.keys M) K ++ flat_map (run_text2 K) t.runs.items)
      ∙ append_assoc (codes "resin2 ") (line (decimal (length M) ∷ map decimal (length K ∷ length t.runs.items ∷ []))) (policies_text t.texts.keys M ++ (flat_map (set_text t.sets.keys M) K ++ flat_map (run_text2 K) t.runs.items))
      ∙ ap (λ n. codes "resin2 " ++ (line (decimal n ∷ decimal (length K) ∷ decimal (length t.runs.items) ∷ []) ++ (policies_text t.texts.keys M ++ (flat_map (set_text t.sets.keys M) K ++ flat_map (run_text2 K) t.runs.items)))) count_texts
      ∙ ap (λ n. codes "resin2 " ++ (line (decimal (length T) ∷ decimal n ∷ decimal (length t.runs.items) ∷ []) ++ (policies_text t.texts.keys M ++ (flat_map (set_text t.sets.keys M) K ++ flat_map (run_text2 K) t.runs.items)))) count_sets
      ∙ ap (λ n. codes "resin2 " ++ (line (decimal (length T) ∷ decimal (length S) ∷ decimal n ∷ []) ++ (policies_text t.texts.keys M ++ (flat_map (set_text t.sets.keys M) K ++ flat_map (run_text2 K) t.runs.items)))) count_runs
      ∙ ap (λ y. codes "resin2 " ++ (line (decimal (length T) ∷ decimal (length S) ∷ decimal (length (runs_of V)) ∷ []) ++ (y ++ (flat_map (set_text t.sets.keys M) K ++ flat_map (run_text2 K) t.runs.items)))) (policies_printed t.texts.keys M T (texts_related t h))
      ∙ ap (λ y. codes "resin2 " ++ (line (decimal (length T) ∷ decimal (length S) ∷ decimal (length (runs_of V)) ∷ []) ++ (policy_lines T ++ (y ++ flat_map (run_text2 K) t.runs.items)))) (sets_printed K S (sets_related t h) sets_in)
      ∙ ap (λ y. codes "resin2 " ++ (line (decimal (length T) ∷ decimal (length S) ∷ decimal (length (runs_of V)) ∷ []) ++ (policy_lines T ++ (flat_map (set_line T) S ++ y)))) (runs_printed2 t.runs.items h.kinds_are ∙ ap (flat_map (run_line2 S)) (sym runs_are))
      ∙ sym (ap (λ b. cond b [] (line (codes "resin2" ∷ decimal (length T) ∷ decimal (length S) ∷ decimal (length (runs_of V)) ∷ []) ++ (policy_lines T ++ (flat_map (set_line T) S ++ flat_map (run_line2 S) (runs_of V))))) (some_texts z))
