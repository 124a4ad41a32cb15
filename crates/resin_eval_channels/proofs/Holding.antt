-- Bytes that are to be held, each with its policies: what a text's policies are kept as, and new bytes behind those of an entry.
use Rattle.std.proofs.Common.{◌≡◌, ℕ, ℤ, suc, ◌+◌, ◌≤◌, ◌<◌, ◌^◌, Bool, true, false, cond, List, [], ◌∷◌, ◌++◌, length, Option, None, Some, Result, Ok, Err, inl, refl, sym, ap, subst, ◌∙◌, arith, length-append, IsErrAnd}
use Rattle.std.specs.FinMap.{empty}
use Rattle.std.specs.Ordering.{int_eq}
use Rattle.std.specs.Prelude.{zip, nat_le}
use Rattle.std.specs.Option.{option_map, option_and_then}
use Rattle.std.proofs.lemmas.List.{length-map}
use Rattle.std.proofs.lemmas.Result.{err_from_is_err_and}
use Rattle.std.proofs.lemmas.Slice.Zip.{firsts-zip, seconds-zip}
use Rattle.resin_eval_queries.specs.Under.shadow.Marks.{Marks, AreMarks}
use Rattle.resin_eval_queries.specs.Under.shadow.Shadows.{written2}
use Rattle.resin_eval_queries.specs.Under.store.Entries.{Marked, LabelledEntry, Good, Bad, plain, plain_bytes, marks, marks_in, lift, AreWritten}
use Rattle.resin_eval_queries.proofs.meaning_lemmas.OneCall.{kept_entry}
use Rattle.resin_eval_queries.specs.Under.base.declared.calls.Calls.{Calls}
use Rattle.resin_eval_queries.specs.Under.base.declared.files.Entry.{Entry}
use Rattle.resin_eval_queries.specs.Under.lstr.declared.limits.TheConstants.{LONGEST}
use Rattle.resin_eval_queries.specs.Under.lstr.Texts.{Text as LabelledText, bytes_of}
use Rattle.resin_eval_queries.specs.Under.scalar.declared.faults.ScriptFault.{ScriptFault}
use Rattle.resin_eval_queries.specs.Under.scalar.declared.faults.ScriptFault.TheVariants.{BadShadow, TextTooLong, NotStorable}
use Rattle.resin_eval_queries.specs.Under.machine.declared.stop.Stop.{Stop}
use Rattle.resin_eval_queries.specs.Under.machine.declared.stop.Stop.TheVariants.{Fault, Memory}
use Rattle.resin_eval_queries.specs.Under.machine.State.{State}
use Rattle.resin_eval_queries.specs.Under.meaning.Programs.{Whole, Prog, give, then_by, ◌>>=◌, act}
use Rattle.resin_eval_queries.specs.Under.meaning.Runs.{World, Does, seen, done}
use Rattle.resin_eval_queries.specs.Under.meaning_forms.Files.{append_flag, behind_held, longer, to_hold}
use Rattle.resin_eval_queries.specs.Under.meaning_forms.Keeping.{each_of, frozen_marks, or_not_storable, freeze_text}
use Rattle.resin_eval_queries.specs.Under.meaning_forms.Parts.{faulted}
use Rattle.resin_eval_queries.specs.Under.meaning_forms.Runs.{Runs, on_ok}
use Rattle.resin_eval_queries.proofs.eval_nested_lemmas.Arms.{does_no, does_yes}
use Rattle.resin_eval_queries.proofs.eval_nested_lemmas.Exits.{does_seen_none, does_seen_unbegun}
use Rattle.resin_eval_queries.proofs.meaning_lemmas.Composition.{does_nothing}
use Rattle.resin_eval_channels.specs.declared.files.Held.{Held}
use Rattle.resin_eval_channels.specs.Held.{marked, IsHeld}

-- ---- as many policies as bytes

some_is : {A : Type 0} (x y : A) → ◌≡◌ {A = Option A} (Some x) (Some y) → x ≡ y
some_is x y e = cc

length_with : {A : Type 0} (o : Option A) (os : Option (List A)) (n : ℕ) → ((zs : List A) → os ≡ Some zs → length zs ≡ n) → (ys : List A) → option_and_then (λ x. option_map (λ xs. x ∷ xs) os) o ≡ Some ys → length ys ≡ suc n
length_with None os n more ys e = absurd (cc)
length_with (Some y) None n more ys e = absurd (cc)
length_with (Some y) (Some zs) n more ys e = ap length (sym (some_is (y ∷ zs) ys e)) ∙ ap suc (more zs refl)

each_length : {A : Type 0} (os : List (Option A)) (ys : List A) → each_of os ≡ Some ys → length ys ≡ length os
each_length [] ys e = ap length (sym (some_is [] ys e))
each_length (o ∷ os) ys e = length_with o (each_of os) (length os) (each_length os) ys e

abbrev alone : State → Whole
alone m = record { state = m; store = record { files = empty; tables = empty }; made = 0 }

abbrev no_calls : Calls
no_calls = record { made = 0; failed = [] }

ok_is : {A : Type 0} (x y : A) → ◌≡◌ {A = Result A Stop} (Ok x) (Ok y) → x ≡ y
ok_is x y e = cc

no_ok : {A : Type 0} (s : Stop) (x : A) → ◌≡◌ {A = Result A Stop} (Err s) (Ok x) → ⊥
no_ok s x e = cc

frozen_there : (t : LabelledText) (v : Marks) (m m' : State) → Runs (freeze_text t) m (Ok v) m' → frozen_marks m t ≡ Some v
frozen_there t v m m' h =
    let d = done (h (seen (Some empty) 0 None) (seen (Some empty) 0 None) no_calls) in
    let s = (d.means tt (alone m) (record { state = refl; files = refl; tables = refl; made = refl }) [] (λ k le. refl)).same (λ e. cc) in
    ended_so s.0
  where
    by : (o : Option Marks) → (or_not_storable o [] (alone m)).end ≡ Ok v → o ≡ Some v
    by (Some w) = λ e. ap Some (ok_is w v e)
    by None = unfold act in λ e. absurd (no_ok (Fault NotStorable m.line) v e)

    ended_so : (freeze_text t [] (alone m)).end ≡ Ok v → frozen_marks m t ≡ Some v
    ended_so = unfold ◌>>=◌ then_by act in by (frozen_marks m t)

-- the policies of a text are as many as its bytes
pub frozen_length : (t : LabelledText) (v : Marks) {m m' : State} → Runs (freeze_text t) m (Ok v) m' → length (bytes_of t) ≡ length v
frozen_length t v {m = m} {m' = m'} h =
    length-map t (λ p. p.0) ∙ sym (each_length _ v (frozen_there t v m m' h) ∙ length-map t _)

-- ---- bytes beside their policies

zip_join : {A B : Type 0} (xs ys : List A) (us vs : List B) → length xs ≡ length us → zip xs us ++ zip ys vs ≡ zip (xs ++ ys) (us ++ vs)
zip_join [] ys [] vs e = refl
zip_join [] ys (u ∷ us) vs e = absurd (omega (arith, e))
zip_join (x ∷ xs) ys [] vs e = absurd (omega (arith, e))
zip_join (x ∷ xs) ys (u ∷ us) vs e = ap (λ zs. (x, u) ∷ zs) (zip_join xs ys us vs (omega (arith, e)))

zip_parts : (d : Marked) → zip (plain_bytes d) (marks d) ≡ d
zip_parts [] = refl
zip_parts (b ∷ d) = ap (λ ds. b ∷ ds) (zip_parts d)

same_length : (d : Marked) → length (plain_bytes d) ≡ length (marks d)
same_length d = length-map d (λ b. b.0) ∙ sym (length-map d (λ b. b.1))

-- what is written is what is held
pub are_written : (h : Held) (bytes shadow : List ℕ) → IsHeld h → AreMarks h.marks → bytes ≡ h.bytes → shadow ≡ written2 h.marks → length shadow < 2 ^ 64 → AreWritten bytes shadow (marked h)
are_written h bytes shadow is are b s short =
    let m : marks (marked h) ≡ h.marks = seconds-zip h.bytes h.marks (sym is) in
    record {
      are_marks = subst AreMarks (sym m) are;
      bytes_are = b ∙ sym (firsts-zip h.bytes h.marks (sym is));
      shadow_is = s ∙ ap written2 (sym m);
      short = short;
    }

-- ---- new bytes behind those of an entry

at_most : (n : ℕ) → n ≤ LONGEST → nat_le n LONGEST ≡ true
at_most n h = grind arith

above : (n : ℕ) → LONGEST < n → nat_le n LONGEST ≡ false
above n h = grind arith

long_by : (new : Marked) (l : LabelledEntry) (e : Entry) → plain l ≡ e → LONGEST < length e.bytes → behind_held new l ≡ faulted TextTooLong
long_by new (Good d version) e p h =
    let n : length e.bytes ≡ length d = ap (λ x. length x.bytes) (sym p) ∙ length-map d (λ b. b.0) in
    ap (λ b. cond b (longer d new) (faulted TextTooLong)) (above (length d) (subst (λ k. LONGEST < k) n h))
long_by new (Bad bytes shadow) e p h =
    let n : length e.bytes ≡ length bytes = ap (λ x. length x.bytes) (sym p) in
    ap (λ b. cond b (faulted BadShadow) (faulted TextTooLong)) (above (length bytes) (subst (λ k. LONGEST < k) n h))

-- an entry that is too long
pub behind_long : (new : Marked) (e : Entry) → LONGEST < length e.bytes → behind_held new (lift e) ≡ faulted TextTooLong
behind_long new e h = long_by new (lift e) e (kept_entry e) h

bad_by : (new : Marked) (l : LabelledEntry) (e : Entry) → plain l ≡ e → length e.bytes ≤ LONGEST → None ≡ marks_in l → behind_held new l ≡ faulted BadShadow
bad_by new (Good d version) e p h f = absurd (cc)
bad_by new (Bad bytes shadow) e p h f =
    let n : length e.bytes ≡ length bytes = ap (λ x. length x.bytes) (sym p) in
    ap (λ b. cond b (faulted BadShadow) (faulted TextTooLong)) (at_most (length bytes) (subst (λ k. k ≤ LONGEST) n h))

-- a damaged one
pub behind_bad : (new : Marked) (e : Entry) → length e.bytes ≤ LONGEST → None ≡ marks_in (lift e) → behind_held new (lift e) ≡ faulted BadShadow
behind_bad new e h f = bad_by new (lift e) e (kept_entry e) h f

good_length : (l : LabelledEntry) (e : Entry) (v : Marks) → plain l ≡ e → Some v ≡ marks_in l → length e.bytes ≡ length v
good_length (Good d version) e v p f =
    let w : v ≡ marks d = cc in
    ap (λ x. length x.bytes) (sym p) ∙ (same_length d ∙ ap length (sym w))
good_length (Bad bytes shadow) e v p f = absurd (cc)

-- the policies of a good one are as many as its bytes
pub told_length : (e : Entry) (v : Marks) → Some v ≡ marks_in (lift e) → length e.bytes ≡ length v
told_length e v f = good_length (lift e) e v (kept_entry e) f

good_by : (new : Marked) (l : LabelledEntry) (e : Entry) (v : Marks) → plain l ≡ e → length e.bytes ≤ LONGEST → Some v ≡ marks_in l → behind_held new l ≡ longer (zip e.bytes v) new
good_by new (Good d version) e v p h f =
    let w : v ≡ marks d = cc in
    let n : length e.bytes ≡ length d = ap (λ x. length x.bytes) (sym p) ∙ length-map d (λ b. b.0) in
    let z : d ≡ zip e.bytes v = sym (zip_parts d) ∙ (λ i. zip (p i).bytes (sym w i)) in
    ap (λ b. cond b (longer d new) (faulted TextTooLong)) (at_most (length d) (subst (λ k. k ≤ LONGEST) n h)) ∙ ap (λ x. longer x new) z
good_by new (Bad bytes shadow) e v p h f = absurd (cc)

behind_good : (new : Marked) (e : Entry) (v : Marks) → length e.bytes ≤ LONGEST → Some v ≡ marks_in (lift e) → behind_held new (lift e) ≡ longer (zip e.bytes v) new
behind_good new e v h f = good_by new (lift e) e v (kept_entry e) h f

zip_length : {A B : Type 0} (xs : List A) (us : List B) → length xs ≡ length us → length (zip xs us) ≡ length xs
zip_length xs us e = sym (length-map (zip xs us) (λ p. p.0)) ∙ ap length (firsts-zip xs us (sym e))

whole_length : (e : Entry) (v : Marks) (new : Held) → length e.bytes ≡ length v → IsHeld new → length (zip e.bytes v) + length (marked new) ≡ length e.bytes + length new.bytes
whole_length e v new n is = λ i. zip_length e.bytes v n i + zip_length new.bytes new.marks is i

-- both together are too long
pub behind_longer : (new : Held) (e : Entry) (v : Marks) → IsHeld new → length e.bytes ≤ LONGEST → Some v ≡ marks_in (lift e) → LONGEST < length e.bytes + length new.bytes → behind_held (marked new) (lift e) ≡ faulted TextTooLong
behind_longer new e v is h f long =
    behind_good (marked new) e v h f
    ∙ ap (λ b. cond b (give (zip e.bytes v ++ marked new)) (faulted TextTooLong))
    (above (length (zip e.bytes v) + length (marked new)) (subst (λ n. LONGEST < n) (sym (whole_length e v new (told_length e v f) is)) long))

-- both together
pub behind_both : (new : Held) (e : Entry) (v : Marks) (h : Held) → IsHeld new → length e.bytes ≤ LONGEST → Some v ≡ marks_in (lift e) → length e.bytes + length new.bytes ≤ LONGEST → h.bytes ≡ e.bytes ++ new.bytes → h.marks ≡ v ++ new.marks
    → behind_held (marked new) (lift e) ≡ give (marked h)
behind_both new e v h is short f fits b m =
    let n = told_length e v f in
    behind_good (marked new) e v short f
    ∙ (ap (λ b. cond b (give (zip e.bytes v ++ marked new)) (faulted TextTooLong))
    (at_most (length (zip e.bytes v) + length (marked new)) (subst (λ n. n ≤ LONGEST) (sym (whole_length e v new n is)) fits))
    ∙ ap (λ d. give d) (zip_join e.bytes new.bytes v new.marks n ∙ (λ i. zip (sym b i) (sym m i))))

-- and it is held
pub both_held : (new : Held) (e : Entry) (v : Marks) (h : Held) → IsHeld new → Some v ≡ marks_in (lift e) → h.bytes ≡ e.bytes ++ new.bytes → h.marks ≡ v ++ new.marks → IsHeld h
both_held new e v h is f b m =
    ap length b ∙ (length-append e.bytes new.bytes ∙ ((λ i. told_length e v f i + is i) ∙ (sym (length-append v new.marks) ∙ ap length (sym m))))

-- want of memory before anything is done
lost_if : {A : Type 0} (b : Bool) (p q : Prog A) {u : World} → Does p u (Err Memory) u → Does q u (Err Memory) u → Does (cond b p q) u (Err Memory) u
lost_if true p q d e = d
lost_if false p q d e = e

lost_fault : (fault : ScriptFault) {u : World} → Does (faulted {A = Marked} fault) u (Err Memory) u
lost_fault fault = does_nothing (faulted {A = Marked} fault) (λ failing at. unfold act in inl refl)

lost_by : (new : Marked) (l : LabelledEntry) {u : World} → Does (behind_held new l) u (Err Memory) u
lost_by new (Good d version) = lost_if _ _ _ (lost_if _ _ _ (does_nothing (give (d ++ new)) (λ failing at. inl refl)) (lost_fault TextTooLong)) (lost_fault TextTooLong)
lost_by new (Bad bytes shadow) = lost_if _ _ _ (lost_fault BadShadow) (lost_fault TextTooLong)

pub behind_lost : {A : Type 0} (g : A → Marked) (new : Marked) (l : LabelledEntry) {u : World} (r : Result A Stop) → IsErrAnd r (λ e. e ≡ Memory) → Does (behind_held new l) u (on_ok g r) u
behind_lost g new l r h = let e = err_from_is_err_and r h in rw (e.1, e.2) (lost_by new l)

-- want of memory before anything is held
pub hold_lost : {C : Type 0} (path : List ℕ) (flags : ℤ) (new : Marked) (g : C → Marked) {u : World} (r : Result C Stop) → IsErrAnd r (λ e. e ≡ Memory) → Does (to_hold path flags new) u (on_ok g r) u
hold_lost path flags new g {u = u} r h = by_flags (int_eq flags append_flag) refl
  where
    by_flags : (b : Bool) → int_eq flags append_flag ≡ b → Does (to_hold path flags new) u (on_ok g r) u
    by_flags true e = does_yes _ _ _ e (does_seen_unbegun _ _ g r h)
    by_flags false e = does_no _ _ _ e (does_seen_none new g r h)
