-- The numbers that are met stand for the sets and the policies of the marks.
use Rattle.std.proofs.Common.{◌≡◌, ℕ, zero, suc, ◌+◌, ◌<◌, Bool, true, false, cond, List, [], ◌∷◌, ◌++◌, length, map, slice_get, Some, refl, sym, ap, subst, ◌∙◌, arith, append-nil}
use Rattle.std.specs.Prelude.{not, ◌||◌, ◌==◌, nat_eq, replicate, fold}
use Rattle.std.specs.List.{filter, flat_map, list_any, position_or_len}
use Rattle.std.specs.Str.{bytes_eq}
use Rattle.std.proofs.lemmas.Bool.{true≢false, cond-true, cond-false, or_left, or_right}
use Rattle.std.proofs.lemmas.Bool.Decides.{nat_tests}
use Rattle.std.proofs.lemmas.List.Concat.{flat_map-append}
use Rattle.std.proofs.lemmas.Slice.Eq.{bytes_eq-Decides}
use Rattle.indexmap.specs.IndexSet.{insert_key}
use Rattle.resin_lstr.proofs.Distinct.{distinct_more}
use Rattle.resin_shadow.specs.declared.table.FrozenRun.{FrozenRun}
use Rattle.resin_shadow.specs.declared.table.Table.{Table}
use Rattle.resin_shadow.specs.Marks.{TextSet, same_set, Marks, MarkRun, Each, spelled, policies, sets}
use Rattle.resin_shadow.specs.Runs.{AreMaximal, run_of, marks_of, Related, HasNumber, AreTextsAt, HasKind, IsKind, IsTable}
use Rattle.resin_shadow.specs.Printed.{numbered, with_number, with_set, sets_met, texts_met}
use Rattle.resin_shadow.proofs.Maximal.{same_decides}
use Rattle.resin_shadow.proofs.Kept.{related_push, one_text, one_number, kind_set, set_kind}

pub number_from : (k l : ℕ) → nat_eq k l ≡ true → k ≡ l
number_from k l h = grind (arith, nat_tests)

pub number_same : (k l : ℕ) → k ≡ l → nat_eq k l ≡ true
number_same k l h = grind (arith, nat_tests)

same_truth : (b c : Bool) → (b ≡ true → c ≡ true) → (c ≡ true → b ≡ true) → b ≡ c
same_truth true c f g = sym (f refl)
same_truth false true f g = g refl
same_truth false false f g = refl

pub fold-append : {A B : Type 0} (f : B → A → B) (a : B) (xs ys : List A) → fold f a (xs ++ ys) ≡ fold f (fold f a xs) ys
fold-append f a [] ys = refl
fold-append f a (x ∷ xs) ys = fold-append f (f a x) xs ys

-- ---- lists that are related item by item
module _ {A B : Type 0} (R : A → B → Type 0) (eqa : A → A → Bool) (eqb : B → B → Bool) (agree : (a c : A) (b d : B) → R a b → R c d → eqa a c ≡ eqb b d) where
  any_related : (a : A) (b : B) (xs : List A) (ys : List B) → R a b → Related R xs ys → list_any (eqa a) xs ≡ list_any (eqb b) ys
  any_related a b [] [] r h = refl
  any_related a b [] (y ∷ ys) r h = absurd h
  any_related a b (x ∷ xs) [] r h = absurd h
  any_related a b (x ∷ xs) (y ∷ ys) r h = ap (λ c. c || list_any (eqa a) xs) (agree a x b y r h.0) ∙ ap (λ c. eqb b y || c) (any_related a b xs ys r h.1)

  pub place_related : (a : A) (b : B) (xs : List A) (ys : List B) → R a b → Related R xs ys → position_or_len (eqa a) xs ≡ position_or_len (eqb b) ys
  place_related a b [] [] r h = refl
  place_related a b [] (y ∷ ys) r h = absurd h
  place_related a b (x ∷ xs) [] r h = absurd h
  place_related a b (x ∷ xs) (y ∷ ys) r h =
      ap (λ c. cond (not c) (1 + position_or_len (eqa a) xs) 0) (agree a x b y r h.0) ∙ ap (λ n. cond (not (eqb b y)) (1 + n) 0) (place_related a b xs ys r h.1)

  insert_related : (a : A) (b : B) (xs : List A) (ys : List B) → R a b → Related R xs ys → Related R (insert_key eqa xs a) (insert_key eqb ys b)
  insert_related a b xs ys r h = by (list_any (eqa a) xs) (list_any (eqb b) ys) (any_related a b xs ys r h)
    where
      by : (c d : Bool) → c ≡ d → Related R (cond c xs (xs ++ a ∷ [])) (cond d ys (ys ++ b ∷ []))
      by true true e = h
      by false false e = related_push R xs ys a b h r
      by true false e = absurd (true≢false e)
      by false true e = absurd (true≢false (sym e))

  pub fold_related : (cs : List A) (ds : List B) (xs : List A) (ys : List B) → Related R cs ds → Related R xs ys → Related R (fold (insert_key eqa) xs cs) (fold (insert_key eqb) ys ds)
  fold_related [] [] xs ys h k = k
  fold_related [] (d ∷ ds) xs ys h k = absurd h
  fold_related (c ∷ cs) [] xs ys h k = absurd h
  fold_related (c ∷ cs) (d ∷ ds) xs ys h k = fold_related cs ds (insert_key eqa xs c) (insert_key eqb ys d) h.1 (insert_related c d xs ys h.0 k)

pub related_append : {A B : Type 0} (R : A → B → Type 0) (xs vs : List A) (ys ws : List B) → Related R xs ys → Related R vs ws → Related R (xs ++ vs) (ys ++ ws)
related_append R [] vs [] ws h k = k
related_append R [] vs (y ∷ ys) ws h k = absurd h
related_append R (x ∷ xs) vs [] ws h k = absurd h
related_append R (x ∷ xs) vs (y ∷ ys) ws h k = (h.0, related_append R xs vs ys ws h.1 k)

pub related_length : {A B : Type 0} (R : A → B → Type 0) (xs : List A) (ys : List B) → Related R xs ys → length xs ≡ length ys
related_length R [] [] h = refl
related_length R [] (y ∷ ys) h = absurd h
related_length R (x ∷ xs) [] h = absurd h
related_length R (x ∷ xs) (y ∷ ys) h = ap suc (related_length R xs ys h.1)

-- ---- one more set, where it has a policy
abbrev pub met_set : List TextSet → TextSet → List TextSet
met_set D s = cond (length s == 0) D (insert_key same_set D s)

pub some_is_none : (x : List ℕ) (s : TextSet) → (length (x ∷ s) == 0) ≡ false
some_is_none x s = grind (arith, nat_tests)

any-push : {X : Type 0} (p : X → Bool) (xs : List X) (y : X) → p y ≡ true → list_any p (xs ++ y ∷ []) ≡ true
any-push p [] y h = or_left (p y) false h
any-push p (x ∷ xs) y h = or_right (p x) (list_any p (xs ++ y ∷ [])) (any-push p xs y h)

any-front : {X : Type 0} (p : X → Bool) (xs ys : List X) → list_any p xs ≡ true → list_any p (xs ++ ys) ≡ true
any-front p [] ys h = absurd (true≢false (sym h))
any-front p (x ∷ xs) ys h =
    elim (p x) as (λ b. (b || list_any p xs) ≡ true → (b || list_any p (xs ++ ys)) ≡ true) [ true ↦ λ _. refl | false ↦ λ g. any-front p xs ys g ] h

-- ---- items that are there already
module _ {X : Type 0} (eq : X → X → Bool) (decides : (x y : X) → (eq x y ≡ true → x ≡ y) × (x ≡ y → eq x y ≡ true)) where
  abbrev pub Within : List X → List X → Type 0
  Within [] ks = Unit {0}
  Within (y ∷ ys) ks = (list_any (eq y) ks ≡ true) × Within ys ks

  pub keeps : (q y : X) (ks : List X) → list_any (eq q) ks ≡ true → list_any (eq q) (insert_key eq ks y) ≡ true
  keeps q y ks h = elim (list_any (eq y) ks) as (λ b. list_any (eq q) (cond b ks (ks ++ y ∷ [])) ≡ true) [ true ↦ h | false ↦ any-front (eq q) ks (y ∷ []) h ]

  keeps_all : (q : X) (ys ks : List X) → list_any (eq q) ks ≡ true → list_any (eq q) (fold (insert_key eq) ks ys) ≡ true
  keeps_all q [] ks h = h
  keeps_all q (y ∷ ys) ks h = keeps_all q ys (insert_key eq ks y) (keeps q y ks h)

  pub has_it : (y : X) (ks : List X) → list_any (eq y) (insert_key eq ks y) ≡ true
  has_it y ks = elim (list_any (eq y) ks) as (λ b. list_any (eq y) ks ≡ b → list_any (eq y) (cond b ks (ks ++ y ∷ [])) ≡ true) [
    | true ↦ λ h. h
    | false ↦ λ h. any-push (eq y) ks y ((decides y y).1 refl)
  ] refl

  all_within : (ys ks : List X) → Within ys (fold (insert_key eq) ks ys)
  all_within [] ks = tt
  all_within (y ∷ ys) ks = (keeps_all y ys (insert_key eq ks y) (has_it y ks), all_within ys (insert_key eq ks y))

  within_more : (xs ks ys : List X) → Within xs ks → Within xs (fold (insert_key eq) ks ys)
  within_more [] ks ys w = tt
  within_more (x ∷ xs) ks ys w = (keeps_all x ys ks w.0, within_more xs ks ys w.1)

  no_more : (ys ks : List X) → Within ys ks → fold (insert_key eq) ks ys ≡ ks
  no_more [] ks w = refl
  no_more (y ∷ ys) ks w = ap (λ ds. fold (insert_key eq) ds ys) (cond-true _ ks (ks ++ y ∷ []) w.0) ∙ no_more ys ks w.1

  -- what lists hold is within what was met of them
  pub all_in : (S : List (List X)) (ks : List X) → Each (λ s. Within s (fold (insert_key eq) ks (flat_map (λ t. t) S))) S
  all_in [] ks = tt
  all_in (s ∷ S) ks =
      let e = fold-append (insert_key eq) ks s (flat_map (λ t. t) S) in (
        subst (Within s) (sym e) (within_more s (fold (insert_key eq) ks s) (flat_map (λ t. t) S) (all_within s ks)),
        subst (λ ds. Each (λ u. Within u ds) S) (sym e) (all_in S (fold (insert_key eq) ks s)),
      )

-- ---- the policies of marks are those of their sets
abbrev Texts : List TextSet → List (List ℕ)
Texts D = fold (insert_key bytes_eq) [] (flat_map (λ t. t) D)

member_within : (s : TextSet) (D : List TextSet) (P : TextSet → Type 0) → list_any (same_set s) D ≡ true → Each P D → P s
member_within s [] P m h = absurd (true≢false (sym m))
member_within s (d ∷ D) P m h = by (same_set s d) refl m (λ m. member_within s D P m h.1)
  where
    by : (b : Bool) → same_set s d ≡ b → (b || list_any (same_set s) D) ≡ true → (list_any (same_set s) D ≡ true → P s) → P s
    by true e m go = subst P (sym ((same_decides s d).0 e)) h.0
    by false e m go = go m

absorbed : (s : TextSet) (D : List TextSet) → list_any (same_set s) D ≡ true → fold (insert_key bytes_eq) (Texts D) s ≡ Texts D
absorbed s D m = no_more bytes_eq bytes_eq-Decides s (Texts D) (member_within s D (λ u. Within bytes_eq bytes_eq-Decides u (Texts D)) m (all_in bytes_eq bytes_eq-Decides D []))

one_set_more : (s : TextSet) (D : List TextSet) → fold (insert_key bytes_eq) (Texts D) s ≡ Texts (met_set D s)
one_set_more [] D = refl
one_set_more (x ∷ xs) D = sym (ap Texts (cond-false _ D (insert_key same_set D (x ∷ xs)) (some_is_none x xs)) ∙ by (list_any (same_set (x ∷ xs)) D) refl)
  where
    by : (b : Bool) → list_any (same_set (x ∷ xs)) D ≡ b → Texts (cond b D (D ++ (x ∷ xs) ∷ [])) ≡ fold (insert_key bytes_eq) (Texts D) (x ∷ xs)
    by true m = sym (absorbed (x ∷ xs) D m)
    by false m =
        ap (fold (insert_key bytes_eq) []) (flat_map-append (λ t. t) D ((x ∷ xs) ∷ []))
        ∙ fold-append (insert_key bytes_eq) [] (flat_map (λ t. t) D) ((x ∷ xs) ++ [])
        ∙ ap (fold (insert_key bytes_eq) (Texts D)) (append-nil (x ∷ xs))

policies_met : (D : List TextSet) (v : Marks) → fold (insert_key bytes_eq) (Texts D) (flat_map (λ t. t) v) ≡ Texts (fold met_set D v)
policies_met D [] = refl
policies_met D (s ∷ v) =
    fold-append (insert_key bytes_eq) (Texts D) s (flat_map (λ t. t) v)
    ∙ ap (λ ds. fold (insert_key bytes_eq) ds (flat_map (λ t. t) v)) (one_set_more s D)
    ∙ policies_met (met_set D s) v

sets_met_by : (D : List TextSet) (v : Marks) → fold (insert_key same_set) D (filter (λ s. not (length s == 0)) v) ≡ fold met_set D v
sets_met_by D [] = refl
sets_met_by D (s ∷ v) = by (length s == 0) (λ D. sets_met_by D v)
  where
    by : (b : Bool) → ((D : List TextSet) → fold (insert_key same_set) D (filter (λ s. not (length s == 0)) v) ≡ fold met_set D v) → fold (insert_key same_set) D (cond (not b) (s ∷ filter (λ s. not (length s == 0)) v) (filter (λ s. not (length s == 0)) v)) ≡ fold met_set (cond b D (insert_key same_set D s)) v
    by true go = go D
    by false go = go (insert_key same_set D s)

pub sets_are_met : (v : Marks) → sets v ≡ fold met_set [] v
sets_are_met v = distinct_more same_set same_decides [] (filter (λ s. not (length s == 0)) v) ∙ sets_met_by [] v

pub policies_are_met : (v : Marks) → policies v ≡ fold (insert_key bytes_eq) [] (flat_map (λ t. t) v)
policies_are_met v = distinct_more bytes_eq bytes_eq-Decides [] (flat_map (λ t. t) v)

pub policies_of_sets : (v : Marks) → policies v ≡ fold (insert_key bytes_eq) [] (flat_map (λ t. t) (sets v))
policies_of_sets v = policies_are_met v ∙ policies_met [] v ∙ ap Texts (sym (sets_are_met v))

-- ---- the sets of marks are those of their runs
met_again : (D : List TextSet) (s : TextSet) → met_set (met_set D s) s ≡ met_set D s
met_again D s = by (length s == 0)
  where
    by : (b : Bool) → cond b (cond b D (insert_key same_set D s)) (insert_key same_set (cond b D (insert_key same_set D s)) s) ≡ cond b D (insert_key same_set D s)
    by true = refl
    by false = cond-true _ (insert_key same_set D s) (insert_key same_set D s ++ s ∷ []) (has_it same_set same_decides s D)

met_run : (n : ℕ) (D : List TextSet) (s : TextSet) → fold met_set D (replicate (suc n) s) ≡ met_set D s
met_run zero D s = refl
met_run (suc n) D s = met_run n (met_set D s) s ∙ met_again D s

met_positive : (n : ℕ) (D : List TextSet) (s : TextSet) → 0 < n → fold met_set D (replicate n s) ≡ met_set D s
met_positive zero D s h = absurd (omega arith)
met_positive (suc n) D s h = met_run n D s

pub met_runs : (D : List TextSet) (rs : List MarkRun) → Each (λ r. 0 < r.0) rs → fold met_set D (spelled rs) ≡ fold met_set D (map (λ r. r.1) rs)
met_runs D [] h = refl
met_runs D (r ∷ rs) h =
    fold-append met_set D (replicate r.0 r.1) (spelled rs) ∙ ap (λ ds. fold met_set ds (spelled rs)) (met_positive r.0 D r.1 h.0) ∙ met_runs (met_set D r.1) rs h.1

pub all_positive : (rs : List MarkRun) → AreMaximal rs → Each (λ r. 0 < r.0) rs
all_positive [] h = tt
all_positive (r ∷ []) h = (h, tt)
all_positive (r ∷ q ∷ rs) h = (h.0, all_positive (q ∷ rs) h.2)

sets_of_runs : (rs : List FrozenRun) → map (λ r. r.1) (map run_of rs) ≡ map (λ r. r.set) rs
sets_of_runs [] = refl
sets_of_runs (r ∷ rs) = ap (λ ss. r.set ∷ ss) (sets_of_runs rs)

pub sets_of_table : (t : Table) → IsTable t → sets (marks_of t.runs.items) ≡ fold met_set [] (map (λ r. r.set) t.runs.items)
sets_of_table t h =
    sets_are_met (marks_of t.runs.items) ∙ met_runs [] (map run_of t.runs.items) (all_positive (map run_of t.runs.items) h.maximal) ∙ ap (fold met_set []) (sets_of_runs t.runs.items)

-- ---- the numbers that are met
pub kinds_agree : (t : Table) → IsTable t → (k l : ℕ) (s u : TextSet) → HasKind t.sets.keys t.texts.keys k s → HasKind t.sets.keys t.texts.keys l u → nat_eq k l ≡ same_set s u
kinds_agree t h k l s u a b =
    same_truth (nat_eq k l) (same_set s u) (λ e. (same_decides s u).1 (kind_set t.sets.keys t.texts.keys k l s u a b (number_from k l e)))
    (λ e. number_same k l (set_kind t.sets.keys t.texts.keys k l s u h.sets_apart h.texts_apart a b ((same_decides s u).0 e)))

pub numbers_agree : (t : Table) → IsTable t → (n m : ℕ) (x y : List ℕ) → HasNumber t.texts.keys n x → HasNumber t.texts.keys m y → nat_eq n m ≡ bytes_eq x y
numbers_agree t h n m x y a b =
    same_truth (nat_eq n m) (bytes_eq x y) (λ e. (bytes_eq-Decides x y).1 (one_text t.texts.keys n x y a (subst (λ i. HasNumber t.texts.keys i y) (sym (number_from n m e)) b)))
    (λ e. number_same n m (one_number t.texts.keys n m y h.texts_apart (subst (HasNumber t.texts.keys n) ((bytes_eq-Decides x y).0 e) a) b))

runs_related : (t : Table) (rs : List FrozenRun) (ks : List ℕ) (D : List TextSet) → IsTable t → Each (λ r. IsKind t r.kind r.set) rs → Related (HasKind t.sets.keys t.texts.keys) ks D
    → Related (HasKind t.sets.keys t.texts.keys) (fold with_set ks rs) (fold met_set D (map (λ r. r.set) rs))
runs_related t [] ks D h all k = k
runs_related t (r ∷ rs) ks D h all k = by (length r.set == 0) (λ ks D k. runs_related t rs ks D h all.1 k)
  where
    by : (b : Bool) → ((ks : List ℕ) (D : List TextSet) → Related (HasKind t.sets.keys t.texts.keys) ks D → Related (HasKind t.sets.keys t.texts.keys) (fold with_set ks rs) (fold met_set D (map (λ r. r.set) rs)))
        → Related (HasKind t.sets.keys t.texts.keys) (fold with_set (cond b ks (with_number ks r.kind)) rs) (fold met_set (cond b D (insert_key same_set D r.set)) (map (λ r. r.set) rs))
    by true go = go ks D k
    by false go = go (with_number ks r.kind) (insert_key same_set D r.set)
        (fold_related (HasKind t.sets.keys t.texts.keys) nat_eq same_set (λ a c b d. kinds_agree t h a c b d) (r.kind ∷ []) (r.set ∷ []) ks D (all.0.0, tt) k)

pub sets_related : (t : Table) → IsTable t → Related (HasKind t.sets.keys t.texts.keys) (sets_met t.runs.items) (sets (marks_of t.runs.items))
sets_related t h = subst (Related (HasKind t.sets.keys t.texts.keys) (sets_met t.runs.items)) (sym (sets_of_table t h)) (runs_related t t.runs.items [] [] h h.kinds_are tt)

pub numbered_is : (xs : List (List ℕ)) (k : ℕ) (x : List ℕ) → slice_get xs k ≡ Some x → numbered xs k ≡ x
numbered_is xs k x e = rw e refl

texts_related_by : (t : Table) (ks : List ℕ) (S : List TextSet) → Related (HasKind t.sets.keys t.texts.keys) ks S → Related (HasNumber t.texts.keys) (flat_map (numbered t.sets.keys) ks) (flat_map (λ s. s) S)
texts_related_by t [] [] h = tt
texts_related_by t [] (s ∷ S) h = absurd h
texts_related_by t (k ∷ ks) [] h = absurd h
texts_related_by t (k ∷ ks) (s ∷ S) h =
    related_append (HasNumber t.texts.keys) (numbered t.sets.keys k) (flat_map (numbered t.sets.keys) ks) s (flat_map (λ s. s) S)
    (subst (λ ns. AreTextsAt t.texts.keys ns s) (sym (numbered_is t.sets.keys k h.0.0 h.0.1)) h.0.2) (texts_related_by t ks S h.1)

pub texts_related : (t : Table) → IsTable t → Related (HasNumber t.texts.keys) (texts_met t.sets.keys (sets_met t.runs.items)) (policies (marks_of t.runs.items))
texts_related t h =
    subst (Related (HasNumber t.texts.keys) (texts_met t.sets.keys (sets_met t.runs.items))) (sym (policies_of_sets (marks_of t.runs.items)))
    (fold_related (HasNumber t.texts.keys) nat_eq bytes_eq (λ a c b d. numbers_agree t h a c b d) (flat_map (numbered t.sets.keys) (sets_met t.runs.items)) (flat_map (λ s. s) (sets (marks_of t.runs.items))) [] []
    (texts_related_by t (sets_met t.runs.items) (sets (marks_of t.runs.items)) (sets_related t h)) tt)
