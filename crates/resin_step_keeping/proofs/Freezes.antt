-- Freezing the policies of a text, by what its parts answered.
use Rattle.std.proofs.Common.{◌≡◌, ◌≢◌, ℕ, ◌+◌, ◌-◌, ◌<◌, ◌≤◌, Bool, true, false, cond, List, [], ◌∷◌, ◌++◌, length, map, take, drop, get_or, slice_get, None, Some, Result, Ok, Err, inl, inr, IsErrAnd, refl, sym, ap, subst, ◌∙◌, arith, append_assoc, append-nil}
use Rattle.std.specs.Prelude.{Option, replicate, is_some, nat_eq, ◌⊎◌, ◌&&◌}
use Rattle.std.specs.List.{list_all, list_any}
use Rattle.std.specs.Map.{lookup}
use Rattle.std.specs.Option.{option_map}
use Rattle.std.proofs.lemmas.Bool.{true≢false}
use Rattle.std.proofs.lemmas.Bool.Decides.{nat_tests}
use Rattle.std.proofs.lemmas.Result.{err_from_is_err_and}
use Rattle.indexmap.specs.IndexSet.{insert_key}
use Rattle.indexmap.specs.IndexMap.{insert_entry}
use Rattle.resin_shadow.specs.Marks.{TextSet, Marks}
use Rattle.resin_shadow.specs.Runs.{set_of}
use Rattle.resin_shadow.specs.Parts.{PlacedRun, run_spelled, spelled_by}
use Rattle.resin_step_parts.specs.Under.label.Sets.{NumberSet, same, numbers}
use Rattle.resin_step_parts.proofs.label_lemmas.Members.{same-decides}
use Rattle.resin_step_parts.specs.Under.lstr.Texts.{Text as LabelledText, sets_of}
use Rattle.resin_step_parts.specs.Under.lstr.Runs.{spell, IsCoalesced}
use Rattle.resin_step_parts.specs.Under.lstr.declared.text.Run.{Run}
use Rattle.resin_step_parts.specs.Under.scalar.declared.faults.ScriptFault.TheVariants.{NotStorable}
use Rattle.resin_step_parts.specs.Under.machine.declared.stop.Stop.{Stop}
use Rattle.resin_step_parts.specs.Under.machine.declared.stop.Stop.TheVariants.{Fault, Memory}
use Rattle.resin_step_parts.specs.Under.machine.State.{State}
use Rattle.resin_step_parts.specs.Under.meaning_forms.Keeping.{each_of, frozen_policy, frozen_set, frozen_marks, or_not_storable, freeze_text}
use Rattle.resin_step_parts.specs.Under.meaning_forms.Parts.{looked}
use Rattle.resin_step_parts.specs.Under.meaning_forms.Runs.{Runs, on_ok}
use Rattle.resin_step_parts.proofs.meaning_lemmas.Composition.{does_next, does_give, does_unbegun_exit, front, nothing_left}
use Rattle.resin_step_parts.proofs.Answered.{does_looked}
use Rattle.resin_step_parts.proofs.Steps.{does_faulted, does_handed}
use Rattle.resin_step_keeping.specs.Sets.{Covers, Stores, AreFrozen}
use Rattle.resin_step_keeping.proofs.Spelled.{none_some, some_is, slice-front, spelled-push, run_is, all-append, both_true, first_of_same}
use Rattle.resin_step_keeping.proofs.Answers_of.{each-map, spelled-each, all_there, not_missing, each_missing, number_missing}

-- ---- the sets and the runs of a text

key_more : (keys new : List NumberSet) (k : NumberSet) → new ≡ insert_key same keys k → (more : List NumberSet) × (new ≡ keys ++ more)
key_more keys new k e = by (list_any (same k) keys) e
  where
    by : (b : Bool) → new ≡ cond b keys (keys ++ k ∷ []) → (more : List NumberSet) × (new ≡ keys ++ more)
    by true e = ([], e ∙ sym (append-nil keys))
    by false e = (k ∷ [], e)

-- the run that was put last
run_put : (keys new more : List NumberSet) (k : NumberSet) (runs runs' : List PlacedRun) (n place : ℕ) → new ≡ insert_key same keys k → runs' ≡ runs ++ (n, place) ∷ [] → slice_get new place ≡ Some k
    → (other : List NumberSet) × (spelled_by (new ++ more) runs' ≡ spelled_by (keys ++ other) runs ++ replicate n k)
run_put keys new more k runs runs' n place e r at =
    let g = key_more keys new k e in (
      g.0 ++ more,
      ap (spelled_by (new ++ more)) r ∙ spelled-push (new ++ more) runs (n, place)
          ∙ ap (λ v. spelled_by (new ++ more) runs ++ v) (run_is (new ++ more) n place k (slice-front new more place k at))
          ∙ ap (λ s. spelled_by s runs ++ replicate n k) (ap (λ s. s ++ more) g.1 ∙ append_assoc keys g.0 more),
    )

abbrev pub SpelledSoFar : List NumberSet → List PlacedRun → ℕ → List Run → List Run → Type 0
SpelledSoFar keys runs from left whole = (more : List NumberSet) → spelled_by (keys ++ more) runs ++ spell from left ≡ spell 0 whole

abbrev pub CoveredSoFar : List NumberSet → List PlacedRun → Type 0
CoveredSoFar keys runs = (more : List NumberSet) → Covers (spelled_by (keys ++ more) runs) keys

pub run_more : (keys new : List NumberSet) (runs runs' : List PlacedRun) (from place : ℕ) (rs : List Run) (i : ℕ) (r : Run) → i < length rs → r ≡ get_or rs i r → new ≡ insert_key same keys r.set → runs' ≡ runs ++ (r.end - from, place) ∷ []
    → slice_get new place ≡ Some r.set → SpelledSoFar keys runs from (drop i rs) rs → SpelledSoFar new runs' r.end (drop (i + 1) rs) rs
run_more keys new runs runs' from place rs i r h is e p at so_far more =
    let q = run_put keys new more r.set runs runs' (r.end - from) place e p at in
    ap (λ v. v ++ spell r.end (drop (i + 1) rs)) q.1
    ∙ append_assoc (spelled_by (keys ++ q.0) runs) (replicate (r.end - from) r.set) (spell r.end (drop (i + 1) rs))
    ∙ ap (λ ys. spelled_by (keys ++ q.0) runs ++ spell from ys) (sym (front rs i r h is))
    ∙ so_far q.0

pub rest_coalesced : (from : ℕ) (rs : List Run) (i : ℕ) (r : Run) → i < length rs → r ≡ get_or rs i r → IsCoalesced from (drop i rs) → (from < r.end) × IsCoalesced r.end (drop (i + 1) rs)
rest_coalesced from rs i r h is c = let d = subst (IsCoalesced from) (front rs i r h is) c in (d.0, d.2)

pub covered_more : (keys new : List NumberSet) (runs runs' : List PlacedRun) (n place : ℕ) (k : NumberSet) → 0 < n → new ≡ insert_key same keys k → runs' ≡ runs ++ (n, place) ∷ [] → slice_get new place ≡ Some k → CoveredSoFar keys runs → CoveredSoFar new runs'
covered_more keys new runs runs' n place k h e p at so_far more test all =
    let q = run_put keys new more k runs runs' n place e p at in
    let both = both_true (list_all test (spelled_by (keys ++ q.0) runs)) (list_all test (replicate n k)) (sym (all-append test (spelled_by (keys ++ q.0) runs) (replicate n k)) ∙ ap (list_all test) (sym q.1) ∙ all) in
    let there = so_far q.0 test both.0 in
    by test there (first_of_same test n k h both.1) (list_any (same k) keys) e
  where
    by : (test : NumberSet → Bool) → list_all test keys ≡ true → test k ≡ true → (b : Bool) → new ≡ cond b keys (keys ++ k ∷ []) → list_all test new ≡ true
    by test there one true e = ap (list_all test) e ∙ there
    by test there one false e = ap (list_all test) e ∙ all-append test keys (k ∷ []) ∙ ap (λ b. b && (test k && true)) there ∙ ap (λ b. b && true) one

pub spelled_whole : (keys : List NumberSet) (runs : List PlacedRun) (from : ℕ) (rs : List Run) (i : ℕ) → length rs ≤ i → SpelledSoFar keys runs from (drop i rs) rs → spelled_by keys runs ≡ spell 0 rs
spelled_whole keys runs from rs i h so_far =
    sym (ap (λ s. spelled_by s runs ++ spell from (drop i rs)) (append-nil keys) ∙ ap (λ ys. spelled_by keys runs ++ spell from ys) (nothing_left rs i h) ∙ append-nil (spelled_by keys runs)) ∙ so_far []

pub covered_whole : (keys : List NumberSet) (runs : List PlacedRun) (sets : List NumberSet) → spelled_by keys runs ≡ sets → CoveredSoFar keys runs → Covers sets keys
covered_whole keys runs sets e so_far test all = so_far [] test (ap (λ s. list_all test (spelled_by s runs)) (append-nil keys) ∙ ap (list_all test) e ∙ all)

-- ---- policy texts that are known

known_here : (m : State) (p : ℕ × List ℕ) (rest : Option (List ℕ)) (o : ℕ) (t : List ℕ) → frozen_policy m p.0 ≡ Some p.1 → (rest ≡ Some t → frozen_policy m o ≡ Some t) → (b : Bool) → nat_eq o p.0 ≡ b → cond b (Some p.1) rest ≡ Some t → frozen_policy m o ≡ Some t
known_here m p rest o t h go true is e = let same_number : o ≡ p.0 = grind (arith, nat_tests) in ap (frozen_policy m) same_number ∙ h ∙ e
known_here m p rest o t h go false is e = go e

pub known_text : (m : State) (es : List (ℕ × List ℕ)) (o : ℕ) (t : List ℕ) → AreFrozen m es → lookup (nat_eq o) es ≡ Some t → frozen_policy m o ≡ Some t
known_text m [] o t h e = absurd (none_some t e)
known_text m (p ∷ es) o t h e = known_here m p (lookup (nat_eq o) es) o t h.0 (known_text m es o t h.1) (nat_eq o p.0) refl e

text_here : (m : State) (p : ℕ × List ℕ) (es more : List (ℕ × List ℕ)) (o : ℕ) (t : List ℕ) → frozen_policy m p.0 ≡ Some p.1 → AreFrozen m es → AreFrozen m more → frozen_policy m o ≡ Some t → (b : Bool) → nat_eq o p.0 ≡ b → AreFrozen m (cond b ((p.0, t) ∷ es) (p ∷ more))
text_here m p es more o t h k l e true is = let same_number : p.0 ≡ o = grind (arith, nat_tests) in (ap (frozen_policy m) same_number ∙ e, k)
text_here m p es more o t h k l e false is = (h, l)

pub text_known : (m : State) (es : List (ℕ × List ℕ)) (o : ℕ) (t : List ℕ) → AreFrozen m es → frozen_policy m o ≡ Some t → AreFrozen m (insert_entry nat_eq es o t)
text_known m [] o t h e = (e, tt)
text_known m (p ∷ es) o t h e = text_here m p es (insert_entry nat_eq es o t) o t h.0 h.1 (text_known m es o t h.1 e) e (nat_eq o p.0) refl

-- the set that was found there
pub run_stored : (keys : List NumberSet) (place : ℕ) (k set run : NumberSet) → slice_get keys place ≡ Some k → same set k ≡ true → set ≡ run → slice_get keys place ≡ Some run
run_stored keys place k set run at is e = at ∙ ap Some (sym ((same-decides set k).0 is) ∙ e)

-- ---- the whole

map-pairs : {X Y Z : Type 0} (f : Y → Z) (xs : List (X × Y)) → map (λ b. f b.1) xs ≡ map f (map (λ b. b.1) xs)
map-pairs f [] = refl
map-pairs f (x ∷ xs) = ap (λ v. f x.1 ∷ v) (map-pairs f xs)

module _ (m : State) (t : LabelledText) (keys : List NumberSet) (runs : List PlacedRun) (spelled : spelled_by keys runs ≡ sets_of t) where
  abbrev texts_in : NumberSet → Option (List (List ℕ))
  texts_in s = each_of (map (frozen_policy m) (numbers s))

  by_sets : frozen_marks m t ≡ each_of (map (frozen_set m) (spelled_by keys runs))
  by_sets = ap each_of (map-pairs (frozen_set m) t ∙ ap (map (frozen_set m)) (sym spelled))

  pub marks_frozen : (lists : List (List (List ℕ))) (v : Marks) → each_of (map texts_in keys) ≡ Some lists → v ≡ spelled_by (map set_of lists) runs → frozen_marks m t ≡ Some v
  marks_frozen lists v e is = by_sets ∙ spelled-each (frozen_set m) keys (map set_of lists) runs (each-map texts_in set_of keys lists e) ∙ ap Some (sym is)

  is_some-map : {A B : Type 0} (f : A → B) (o : Option A) → is_some (option_map f o) ≡ is_some o
  is_some-map f None = refl
  is_some-map f (Some x) = refl

  tests_same : (xs : List NumberSet) → list_all (λ s. is_some (frozen_set m s)) xs ≡ list_all (λ s. is_some (texts_in s)) xs
  tests_same [] = refl
  tests_same (s ∷ xs) = ap (λ b. b && list_all (λ s. is_some (frozen_set m s)) xs) (is_some-map set_of (texts_in s)) ∙ ap (λ b. is_some (texts_in s) && b) (tests_same xs)

  pub marks_missing : Covers (sets_of t) keys → each_of (map texts_in keys) ≡ None → frozen_marks m t ≡ None
  marks_missing covers none = by (frozen_marks m t) refl
    where
      by : (o : Option Marks) → frozen_marks m t ≡ o → o ≡ None
      by None e = refl
      by (Some v) e =
          let all = all_there (frozen_set m) (spelled_by keys runs) v (sym by_sets ∙ e) in
          absurd (not_missing texts_in keys none (covers (λ s. is_some (texts_in s)) (sym (tests_same (sets_of t)) ∙ ap (list_all (λ s. is_some (frozen_set m s))) (sym spelled) ∙ all)))

pub text_freezes : (m : State) (t : LabelledText) (v : Marks) → frozen_marks m t ≡ Some v → Runs (freeze_text t) m (Ok v) m
text_freezes m t v e f u k = does_next (looked (λ m. frozen_marks m t)) or_not_storable (does_looked (λ m. frozen_marks m t) (Some v) m (sym e) f u k) (does_give v _)

pub text_unfrozen : (m : State) (t : LabelledText) (out : Option (List (List (List ℕ)))) (s : Stop) (r : Result Marks Stop) → Stores out m.line (Err s) → (out ≡ None → frozen_marks m t ≡ None) → IsErrAnd r (λ e. e ≡ s) → Runs (freeze_text t) m r m
text_unfrozen m t out s r (inl h) none is f u k =
    does_handed (freeze_text t) r is
    (does_next (looked (λ m. frozen_marks m t)) or_not_storable (does_looked (λ m. frozen_marks m t) None m (sym (none h.1)) f u k) (does_faulted NotStorable m s h.0 f u k))
text_unfrozen m t out s r (inr h) none is f u k = does_unbegun_exit (looked (λ m. frozen_marks m t)) or_not_storable r (let e = err_from_is_err_and r is in rw (e.1, e.2) h)

-- ---- stops that are handed on

-- an answer is missing among others
pub stores_missing : {A X : Type 0} (f : X → Option A) (xs : List X) (i : ℕ) (x : X) (line : ℕ) (s : Stop) → i < length xs → x ≡ get_or xs i x → Stores (f x) line (Err s) → Stores {A = List A} (each_of (map f xs)) line (Err s)
stores_missing f xs i x line s h is (inl e) = inl (e.0, each_missing f xs i x h is e.1)
stores_missing f xs i x line s h is (inr e) = inr e

-- an answer that is seen otherwise stops as it did
pub stores_as : {A B : Type 0} (g : B → A) (out : Option A) (line : ℕ) (s : Stop) (r : Result B Stop) → IsErrAnd r (λ e. e ≡ s) → Stores out line (Err s) → Stores out line (on_ok g r)
stores_as g out line s r is h = let e = err_from_is_err_and r is in rw (e.1, e.2) h

pub stores_handed : {A : Type 0} (out : Option A) (line : ℕ) (s : Stop) (r : Result A Stop) → IsErrAnd r (λ e. e ≡ s) → Stores out line (Err s) → Stores out line r
stores_handed out line s r is h = let e = err_from_is_err_and r is in rw (e.1, e.2) h

pub stores_lost : {A : Type 0} (out : Option A) (line : ℕ) (r : Result A Stop) → IsErrAnd r (λ e. e ≡ Memory) → Stores out line r
stores_lost out line r is = stores_handed out line Memory r is (inr refl)

pub number_stores : {A : Type 0} (f : ℕ → Option A) (xs : List ℕ) (i : ℕ) (line : ℕ) (s : Stop) → i < length xs → Stores (f (get_or xs i 0)) line (Err s) → Stores {A = List A} (each_of (map f xs)) line (Err s)
number_stores f xs i line s h (inl e) = inl (e.0, number_missing f xs i h e.1)
number_stores f xs i line s h (inr e) = inr e
