-- What a table keeps says what its marks are.
use Rattle.std.proofs.Common.{◌≡◌, Bool, true, false, cond, ℕ, zero, suc, ◌^◌, ◌<◌, List, [], ◌∷◌, ◌++◌, length, map, slice_get, Some, refl, sym, ap, subst, ◌∙◌}
use Rattle.std.specs.Prelude.{replicate}
use Rattle.std.specs.List.{sum_by, list_any, IsDistinct, AllByRecursion}
use Rattle.std.specs.Str.{bytes_eq}
use Rattle.std.proofs.lemmas.Bool.{true≢false}
use Rattle.std.proofs.lemmas.Slice.Eq.{bytes_eq-Decides}
use Rattle.indexmap.specs.IndexSet.{insert_key}
use Rattle.resin_frozen.specs.Policies.{IsPolicyText}
use Rattle.resin_frozen.proofs.Numbers.{from_some, none_some}
use Rattle.resin_shadow.specs.declared.table.FrozenRun.{FrozenRun}
use Rattle.resin_shadow.specs.declared.table.Kind.{Kind}
use Rattle.resin_shadow.specs.declared.table.Table.{Table}
use Rattle.resin_shadow.specs.Marks.{TextSet, IsTextSet, MarkRun, Each, AreMarks, spelled}
use Rattle.resin_shadow.specs.Runs.{AreMaximal, run_of, marks_of, Related, HasNumber, AreTextsAt, HasKind, IsKind, IsKindOf, IsTable, Grows, Stays}
use Rattle.resin_shadow.proofs.Maximal.{length_spelled}

pub each_at : {X : Type 0} (P : X → Type 0) (xs : List X) (k : ℕ) (x : X) → Each P xs → slice_get xs k ≡ Some x → P x
each_at P [] k x h e = absurd (none_some x e)
each_at P (y ∷ xs) zero x h e = subst P (from_some y x e) h.0
each_at P (y ∷ xs) (suc k) x h e = each_at P xs k x h.1 e

pub each-append : {X : Type 0} (P : X → Type 0) (xs ys : List X) → Each P xs → Each P ys → Each P (xs ++ ys)
each-append P [] ys h k = k
each-append P (x ∷ xs) ys h k = (h.0, each-append P xs ys h.1 k)

each_same : {X : Type 0} (P : X → Type 0) (n : ℕ) (x : X) → P x → Each P (replicate n x)
each_same P zero x h = tt
each_same P (suc n) x h = (h, each_same P n x h)

each_spelled : (P : TextSet → Type 0) (rs : List MarkRun) → Each (λ r. P r.1) rs → Each P (spelled rs)
each_spelled P [] h = tt
each_spelled P (r ∷ rs) h = each-append P (replicate r.0 r.1) (spelled rs) (each_same P r.0 r.1 h.0) (each_spelled P rs h.1)

pub each_map : {X : Type 0} (P Q : X → Type 0) (xs : List X) → ((x : X) → P x → Q x) → Each P xs → Each Q xs
each_map P Q [] f h = tt
each_map P Q (x ∷ xs) f h = (f x h.0, each_map P Q xs f h.1)

each_under : {X Y : Type 0} (f : X → Y) (P : Y → Type 0) (xs : List X) → Each (λ x. P (f x)) xs → Each P (map f xs)
each_under f P [] h = tt
each_under f P (x ∷ xs) h = (h.0, each_under f P xs h.1)

texts_hold : (P : List ℕ → Type 0) (texts : List (List ℕ)) (ns : List ℕ) (s : TextSet) → Each P texts → AreTextsAt texts ns s → Each P s
texts_hold P texts [] [] h a = tt
texts_hold P texts [] (t ∷ s) h a = absurd a
texts_hold P texts (n ∷ ns) [] h a = absurd a
texts_hold P texts (n ∷ ns) (t ∷ s) h a = (each_at P texts n t h a.0, texts_hold P texts ns s h a.1)

pub count_of : (t : Table) → IsTable t → length (marks_of t.runs.items) ≡ t.len
count_of t h = length_spelled (map run_of t.runs.items) ∙ h.total

-- what holds of the set of each run holds of the set of each byte
runs_hold : (P : TextSet → Type 0) (rs : List FrozenRun) → Each (λ r. P r.set) rs → Each P (marks_of rs)
runs_hold P rs h = each_spelled P (map run_of rs) (each_under run_of (λ r. P r.1) rs h)

pub marks_of_table : (t : Table) → IsTable t → AreMarks (marks_of t.runs.items)
marks_of_table t h = record {
  sets = runs_hold IsTextSet t.runs.items (each_map (λ r. IsKind t r.kind r.set) (λ r. IsTextSet r.set) t.runs.items (λ r p. p.1) h.kinds_are);
  policies = runs_hold (Each IsPolicyText) t.runs.items
      (each_map (λ r. IsKind t r.kind r.set) (λ r. Each IsPolicyText r.set) t.runs.items (λ r p. texts_hold IsPolicyText t.texts.keys p.0.0 r.set h.texts_are p.0.2) h.kinds_are);
  count = subst (λ n. n < 2 ^ 64) (sym (count_of t h)) h.count;
}

-- ---- tables that grow
pub slice_last : {X : Type 0} (xs : List X) (x : X) → slice_get (xs ++ x ∷ []) (length xs) ≡ Some x
slice_last [] x = refl
slice_last (y ∷ xs) x = slice_last xs x

pub slice_kept : {X : Type 0} (xs ys : List X) (n : ℕ) (x : X) → slice_get xs n ≡ Some x → slice_get (xs ++ ys) n ≡ Some x
slice_kept [] ys n x e = absurd (none_some x e)
slice_kept (y ∷ xs) ys zero x e = e
slice_kept (y ∷ xs) ys (suc n) x e = slice_kept xs ys n x e

pub slice_grown : {X : Type 0} (old new : List X) (n : ℕ) (x : X) → Grows old new → slice_get old n ≡ Some x → slice_get new n ≡ Some x
slice_grown old new n x g e = subst (λ xs. slice_get xs n ≡ Some x) (sym g.is) (slice_kept old g.more n x e)

pub nothing_behind : {X : Type 0} (xs : List X) → xs ++ [] ≡ xs
nothing_behind [] = refl
nothing_behind (x ∷ xs) = ap (λ ys. x ∷ ys) (nothing_behind xs)

joined : {X : Type 0} (xs ys zs : List X) → (xs ++ ys) ++ zs ≡ xs ++ (ys ++ zs)
joined [] ys zs = refl
joined (x ∷ xs) ys zs = ap (λ v. x ∷ v) (joined xs ys zs)

pub grows_same : {X : Type 0} (xs ys : List X) → ys ≡ xs → Grows xs ys
grows_same xs ys e = record { more = []; is = e ∙ sym (nothing_behind xs) }

pub grows_more : {X : Type 0} (xs ys zs : List X) → Grows xs ys → Grows ys zs → Grows xs zs
grows_more xs ys zs g h = record { more = g.more ++ h.more; is = h.is ∙ ap (λ v. v ++ h.more) g.is ∙ joined xs g.more h.more }

pub grows_key : {X : Type 0} (eq : X → X → Bool) (old new : List X) (k : X) → new ≡ insert_key eq old k → Grows old new
grows_key eq old new k e = by (list_any (eq k) old) e
  where
    by : (b : Bool) → new ≡ cond b old (old ++ k ∷ []) → Grows old new
    by true e = grows_same old new e
    by false e = record { more = k ∷ []; is = e }

pub each_key : {X : Type 0} (P : X → Type 0) (eq : X → X → Bool) (old new : List X) (k : X) → new ≡ insert_key eq old k → Each P old → P k → Each P new
each_key P eq old new k e h p = by (list_any (eq k) old) e
  where
    by : (b : Bool) → new ≡ cond b old (old ++ k ∷ []) → Each P new
    by true e = subst (Each P) (sym e) h
    by false e = subst (Each P) (sym e) (each-append P old (k ∷ []) h (p, tt))

pub related_map : {A B : Type 0} (R S : A → B → Type 0) (xs : List A) (ys : List B) → ((x : A) (y : B) → R x y → S x y) → Related R xs ys → Related S xs ys
related_map R S [] [] f h = tt
related_map R S [] (y ∷ ys) f h = absurd h
related_map R S (x ∷ xs) [] f h = absurd h
related_map R S (x ∷ xs) (y ∷ ys) f h = (f x y h.0, related_map R S xs ys f h.1)

pub related_push : {A B : Type 0} (R : A → B → Type 0) (xs : List A) (ys : List B) (x : A) (y : B) → Related R xs ys → R x y → Related R (xs ++ x ∷ []) (ys ++ y ∷ [])
related_push R [] [] x y h r = (r, tt)
related_push R [] (v ∷ ys) x y h r = absurd h
related_push R (u ∷ xs) [] x y h r = absurd h
related_push R (u ∷ xs) (v ∷ ys) x y h r = (h.0, related_push R xs ys x y h.1 r)

pub texts_kept : (old new : List (List ℕ)) (ns : List ℕ) (s : TextSet) → Grows old new → AreTextsAt old ns s → AreTextsAt new ns s
texts_kept old new ns s g a = related_map (HasNumber old) (HasNumber new) ns s (λ n t e. slice_grown old new n t g e) a

pub kind_kept : (t u : Table) (k : ℕ) (s : TextSet) → Stays t u → IsKind t k s → IsKind u k s
kind_kept t u k s g h = ((h.0.0, slice_grown t.sets.keys u.sets.keys k h.0.0 g.sets h.0.1, texts_kept t.texts.keys u.texts.keys h.0.0 s g.texts h.0.2), h.1)

pub kinds_kept : (t u : Table) (ks : List Kind) → Stays t u → Each (IsKindOf t) ks → Each (IsKindOf u) ks
kinds_kept t u ks g h = each_map (IsKindOf t) (IsKindOf u) ks (λ k p. kind_kept t u k.number k.set g p) h

pub stays_same : (t u : Table) → u.runs.items ≡ t.runs.items → u.len ≡ t.len → u.sets.keys ≡ t.sets.keys → u.texts.keys ≡ t.texts.keys → Stays t u
stays_same t u r l s x = record { runs = r; len = l; sets = grows_same _ _ s; texts = grows_same _ _ x }

pub stays_more : (t u w : Table) → Stays t u → Stays u w → Stays t w
stays_more t u w g h = record {
  runs = h.runs ∙ g.runs;
  len = h.len ∙ g.len;
  sets = grows_more t.sets.keys u.sets.keys w.sets.keys g.sets h.sets;
  texts = grows_more t.texts.keys u.texts.keys w.texts.keys g.texts h.texts;
}

-- more texts, or more sets, and the same runs
pub staying : (t u : Table) → Stays t u → Each IsPolicyText u.texts.keys → IsDistinct bytes_eq u.texts.keys → IsDistinct bytes_eq u.sets.keys → IsTable t → IsTable u
staying t u g policies texts sets h = record {
  maximal = subst (λ rs. AreMaximal (map run_of rs)) (sym g.runs) h.maximal;
  kinds_are = subst (Each (λ r. IsKind u r.kind r.set)) (sym g.runs) (each_map (λ r. IsKind t r.kind r.set) (λ r. IsKind u r.kind r.set) t.runs.items (λ r p. kind_kept t u r.kind r.set g p) h.kinds_are);
  texts_are = policies;
  texts_apart = texts;
  sets_apart = sets;
  total = ap (λ rs. sum_by (λ r. r.0) (map run_of rs)) g.runs ∙ h.total ∙ sym g.len;
  count = subst (λ n. n < 2 ^ 64) (sym g.len) h.count;
}

-- ---- numbers and what they stand for
pub one_text : (texts : List (List ℕ)) (n : ℕ) (t u : List ℕ) → HasNumber texts n t → HasNumber texts n u → t ≡ u
one_text texts n t u a b = from_some t u (sym a ∙ b)

-- numbers are those of one set
pub one_set : (texts : List (List ℕ)) (ns : List ℕ) (s u : TextSet) → AreTextsAt texts ns s → AreTextsAt texts ns u → s ≡ u
one_set texts [] [] [] a b = refl
one_set texts [] [] (v ∷ u) a b = absurd b
one_set texts [] (t ∷ s) u a b = absurd a
one_set texts (n ∷ ns) [] u a b = absurd a
one_set texts (n ∷ ns) (t ∷ s) [] a b = absurd b
one_set texts (n ∷ ns) (t ∷ s) (v ∷ u) a b = ap (λ x. x ∷ s) (one_text texts n t v a.0 b.0) ∙ ap (λ xs. v ∷ xs) (one_set texts ns s u a.1 b.1)

-- an item that differs from all of a list isn't in it
elsewhere : (x : List ℕ) (xs : List (List ℕ)) (n : ℕ) → AllByRecursion (λ y. bytes_eq x y ≡ false) xs → HasNumber xs n x → ⊥
elsewhere x [] n h e = none_some x e
elsewhere x (y ∷ xs) zero h e = true≢false (sym ((bytes_eq-Decides x y).1 (sym (from_some y x e))) ∙ h.0)
elsewhere x (y ∷ xs) (suc n) h e = elsewhere x xs n h.1 e

-- a list without repeats has a text at one place
pub one_number : (texts : List (List ℕ)) (n m : ℕ) (t : List ℕ) → IsDistinct bytes_eq texts → HasNumber texts n t → HasNumber texts m t → n ≡ m
unfolding IsDistinct
one_number [] n m t d a b = absurd (none_some t a)
one_number (x ∷ xs) zero zero t d a b = refl
one_number (x ∷ xs) zero (suc m) t d a b = absurd (elsewhere x xs m d.0 (b ∙ sym a))
one_number (x ∷ xs) (suc n) zero t d a b = absurd (elsewhere x xs n d.0 (a ∙ sym b))
one_number (x ∷ xs) (suc n) (suc m) t d a b = ap suc (one_number xs n m t d.1 a b)

one_list : (texts : List (List ℕ)) (ns ms : List ℕ) (s : TextSet) → IsDistinct bytes_eq texts → AreTextsAt texts ns s → AreTextsAt texts ms s → ns ≡ ms
one_list texts [] [] [] d a b = refl
one_list texts [] (m ∷ ms) [] d a b = absurd b
one_list texts (n ∷ ns) ms [] d a b = absurd a
one_list texts [] ms (t ∷ s) d a b = absurd a
one_list texts (n ∷ ns) [] (t ∷ s) d a b = absurd b
one_list texts (n ∷ ns) (m ∷ ms) (t ∷ s) d a b = ap (λ x. x ∷ ns) (one_number texts n m t d a.0 b.0) ∙ ap (λ xs. m ∷ xs) (one_list texts ns ms s d a.1 b.1)

pub kind_set : (sets texts : List (List ℕ)) (k l : ℕ) (s u : TextSet) → HasKind sets texts k s → HasKind sets texts l u → k ≡ l → s ≡ u
kind_set sets texts k l s u a b e =
    let ns : a.0 ≡ b.0 = from_some a.0 b.0 (sym a.1 ∙ ap (slice_get sets) e ∙ b.1) in
    one_set texts a.0 s u a.2 (subst (λ ms. AreTextsAt texts ms u) (sym ns) b.2)

pub set_kind : (sets texts : List (List ℕ)) (k l : ℕ) (s u : TextSet) → IsDistinct bytes_eq sets → IsDistinct bytes_eq texts → HasKind sets texts k s → HasKind sets texts l u → s ≡ u → k ≡ l
set_kind sets texts k l s u d f a b e =
    let ns : a.0 ≡ b.0 = one_list texts a.0 b.0 u f (subst (AreTextsAt texts a.0) e a.2) b.2 in
    one_number sets k l b.0 d (a.1 ∙ ap Some ns) b.1
