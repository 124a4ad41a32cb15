-- What calls leave a table.
use Rattle.std.proofs.Common.{◌≡◌, ◌≢◌, ℕ, zero, suc, ◌+◌, ◌-◌, ◌^◌, ◌<◌, ◌≤◌, Bool, true, false, List, [], ◌∷◌, ◌++◌, length, map, slice_get, get_or, Some, refl, sym, ap, subst, ◌∙◌, arith, append_assoc, length-append, slice_set}
use Rattle.std.specs.Prelude.{nat_eq, replicate}
use Rattle.std.specs.List.{sum_by, IsDistinct}
use Rattle.std.specs.Str.{bytes_eq}
use Rattle.std.proofs.lemmas.Bool.{true≢false}
use Rattle.std.proofs.lemmas.Slice.Eq.{bytes_eq-Decides}
use Rattle.std.proofs.lemmas.List.Sums.{sum_by-append, sum_by-cons}
use Rattle.resin_frozen.specs.Policies.{IsPolicyText}
use Rattle.resin_frozen.proofs.Numbers.{from_some, none_some}
use Rattle.resin_shadow.specs.declared.table.FrozenRun.{FrozenRun}
use Rattle.resin_shadow.specs.declared.table.Kind.{Kind}
use Rattle.resin_shadow.specs.declared.table.Table.{Table}
use Rattle.resin_shadow.specs.Marks.{TextSet, MarkRun, Each, spelled}
use Rattle.resin_shadow.specs.Runs.{AreMaximal, run_of, marks_of, HasNumber, AreTextsAt, HasKind, IsKind, IsKindOf, IsTable, Grows, Stays}
use Rattle.resin_shadow.specs.Ends.{EndsApart, EndsWith, Ends}
use Rattle.resin_shadow.proofs.First_met.{number_from, number_same}
use Rattle.resin_shadow.proofs.Kept.{each-append, each_map, grows_same, nothing_behind, staying, kind_set, set_kind}

pub stays_texts : (t u : Table) → u.runs.items ≡ t.runs.items → u.len ≡ t.len → u.sets.keys ≡ t.sets.keys → Grows t.texts.keys u.texts.keys → Stays t u
stays_texts t u r l s g = record { runs = r; len = l; sets = grows_same t.sets.keys u.sets.keys s; texts = g }

pub stays_sets : (t u : Table) → u.runs.items ≡ t.runs.items → u.len ≡ t.len → Grows t.sets.keys u.sets.keys → u.texts.keys ≡ t.texts.keys → Stays t u
stays_sets t u r l g x = record { runs = r; len = l; sets = g; texts = grows_same t.texts.keys u.texts.keys x }

pub more_texts : (t u : Table) → u.runs.items ≡ t.runs.items → u.len ≡ t.len → u.sets.keys ≡ t.sets.keys → Grows t.texts.keys u.texts.keys → Each IsPolicyText u.texts.keys → IsDistinct bytes_eq u.texts.keys → IsTable t → IsTable u
more_texts t u r l s g p d h = staying t u (stays_texts t u r l s g) p d (subst (IsDistinct bytes_eq) (sym s) h.sets_apart) h

pub more_sets : (t u : Table) → u.runs.items ≡ t.runs.items → u.len ≡ t.len → Grows t.sets.keys u.sets.keys → u.texts.keys ≡ t.texts.keys → IsDistinct bytes_eq u.sets.keys → IsTable t → IsTable u
more_sets t u r l g x d h = staying t u (stays_sets t u r l g x) (subst (Each IsPolicyText) (sym x) h.texts_are) (subst (IsDistinct bytes_eq) (sym x) h.texts_apart) d h

pub same_table : (t u : Table) → u.runs.items ≡ t.runs.items → u.len ≡ t.len → u.sets.keys ≡ t.sets.keys → u.texts.keys ≡ t.texts.keys → IsTable t → IsTable u
same_table t u r l s x h = more_sets t u r l (grows_same t.sets.keys u.sets.keys s) x (subst (IsDistinct bytes_eq) (sym s) h.sets_apart) h

pub kind_stored : (sets texts : List (List ℕ)) (ns : List ℕ) (s : TextSet) (n : ℕ) → (k : List ℕ) × (slice_get sets n ≡ Some k) × (bytes_eq ns k ≡ true) → AreTextsAt texts ns s → HasKind sets texts n s
kind_stored sets texts ns s n st a = (ns, st.1 ∙ ap Some (sym ((bytes_eq-Decides ns st.0).0 st.2)), a)

pub number_stored : (texts : List (List ℕ)) (t : List ℕ) (n : ℕ) → (k : List ℕ) × (slice_get texts n ≡ Some k) × (bytes_eq t k ≡ true) → HasNumber texts n t
number_stored texts t n st = st.1 ∙ ap Some (sym ((bytes_eq-Decides t st.0).0 st.2))

-- ---- a run, put last
map-push : (rs : List FrozenRun) (r : FrozenRun) → map run_of (rs ++ r ∷ []) ≡ map run_of rs ++ run_of r ∷ []
map-push [] r = refl
map-push (x ∷ rs) r = ap (λ ys. run_of x ∷ ys) (map-push rs r)

spelled-push : (rs : List MarkRun) (r : MarkRun) → spelled (rs ++ r ∷ []) ≡ spelled rs ++ replicate r.0 r.1
spelled-push [] r = nothing_behind (replicate r.0 r.1)
spelled-push (x ∷ rs) r = ap (λ v. replicate x.0 x.1 ++ v) (spelled-push rs r) ∙ sym (append_assoc (replicate x.0 x.1) (spelled rs) (replicate r.0 r.1))

pub marks-push : (rs : List FrozenRun) (r : FrozenRun) → marks_of (rs ++ r ∷ []) ≡ marks_of rs ++ replicate r.len r.set
marks-push rs r = ap spelled (map-push rs r) ∙ spelled-push (map run_of rs) (run_of r)

maximal-push : (rs : List FrozenRun) (r : FrozenRun) → AreMaximal (map run_of rs) → 0 < r.len → EndsApart r.set rs → AreMaximal (map run_of (rs ++ r ∷ []))
maximal-push [] r h some apart = some
maximal-push (x ∷ []) r h some apart = (h, apart, some)
maximal-push (x ∷ y ∷ rs) r h some apart = (h.0, h.1, maximal-push (y ∷ rs) r h.2 some apart)

sum-push : (rs : List FrozenRun) (r : FrozenRun) → sum_by (λ r. r.0) (map run_of (rs ++ r ∷ [])) ≡ sum_by (λ r. r.0) (map run_of rs) + r.len
sum-push rs r =
    ap (sum_by (λ r. r.0)) (map-push rs r) ∙ sum_by-append (λ r. r.0) (map run_of rs) (run_of r ∷ [])
    ∙ ap (λ n. sum_by (λ r. r.0) (map run_of rs) + n) (sum_by-cons (λ r. r.0) (run_of r) [] ∙ omega arith)

pub kind_same : (t u : Table) (k : ℕ) (s : TextSet) → u.sets.keys ≡ t.sets.keys → u.texts.keys ≡ t.texts.keys → IsKind t k s → IsKind u k s
kind_same t u k s a b h = (subst (λ x. HasKind x u.texts.keys k s) (sym a) (subst (λ x. HasKind t.sets.keys x k s) (sym b) h.0), h.1)

-- one more run
pub pushed_table : (t u : Table) (r : FrozenRun) → u.runs.items ≡ t.runs.items ++ r ∷ [] → u.len ≡ t.len + r.len → u.sets.keys ≡ t.sets.keys → u.texts.keys ≡ t.texts.keys → 0 < r.len → t.len + r.len < 2 ^ 64
    → IsKind t r.kind r.set → EndsApart r.set t.runs.items → IsTable t → IsTable u
pushed_table t u r e l a b some small k apart h = record {
  maximal = subst (λ rs. AreMaximal (map run_of rs)) (sym e) (maximal-push t.runs.items r h.maximal some apart);
  kinds_are = subst (Each (λ r. IsKind u r.kind r.set)) (sym e)
      (each-append (λ r. IsKind u r.kind r.set) t.runs.items (r ∷ []) (each_map (λ r. IsKind t r.kind r.set) (λ r. IsKind u r.kind r.set) t.runs.items (λ r p. kind_same t u r.kind r.set a b p) h.kinds_are) (kind_same t u r.kind r.set a b k, tt));
  texts_are = subst (Each IsPolicyText) (sym b) h.texts_are;
  texts_apart = subst (IsDistinct bytes_eq) (sym b) h.texts_apart;
  sets_apart = subst (IsDistinct bytes_eq) (sym a) h.sets_apart;
  total = ap (λ rs. sum_by (λ r. r.0) (map run_of rs)) e ∙ sum-push t.runs.items r ∙ ap (λ n. n + r.len) h.total ∙ sym l;
  count = subst (λ n. n < 2 ^ 64) (sym l) small;
}

-- the last run, with more bytes
abbrev pub longer_run : ℕ → FrozenRun → FrozenRun
longer_run n r = record r { len = r.len + n }

maximal_longer : (rs : List FrozenRun) (r : FrozenRun) (n : ℕ) → AreMaximal (map run_of (rs ++ r ∷ [])) → AreMaximal (map run_of (rs ++ longer_run n r ∷ []))
maximal_longer [] r n h = omega (arith, h)
maximal_longer (x ∷ []) r n h = (h.0, h.1, let k = h.2 in omega (arith, k))
maximal_longer (x ∷ y ∷ rs) r n h = (h.0, h.1, maximal_longer (y ∷ rs) r n h.2)

each_longer : (t u : Table) (rs : List FrozenRun) (r : FrozenRun) (n : ℕ) → u.sets.keys ≡ t.sets.keys → u.texts.keys ≡ t.texts.keys → Each (λ r. IsKind t r.kind r.set) (rs ++ r ∷ [])
    → Each (λ r. IsKind u r.kind r.set) (rs ++ longer_run n r ∷ [])
each_longer t u [] r n a b h = (kind_same t u r.kind r.set a b h.0, tt)
each_longer t u (x ∷ rs) r n a b h = (kind_same t u x.kind x.set a b h.0, each_longer t u rs r n a b h.1)

pub joined_table : (t u : Table) (rs : List FrozenRun) (r : FrozenRun) (n : ℕ) → t.runs.items ≡ rs ++ r ∷ [] → u.runs.items ≡ rs ++ longer_run n r ∷ [] → u.len ≡ t.len + n → u.sets.keys ≡ t.sets.keys → u.texts.keys ≡ t.texts.keys
    → t.len + n < 2 ^ 64 → IsTable t → IsTable u
joined_table t u rs r n e f l a b small h = record {
  maximal = subst (λ ys. AreMaximal (map run_of ys)) (sym f) (maximal_longer rs r n (subst (λ ys. AreMaximal (map run_of ys)) e h.maximal));
  kinds_are = subst (Each (λ r. IsKind u r.kind r.set)) (sym f) (each_longer t u rs r n a b (subst (Each (λ r. IsKind t r.kind r.set)) e h.kinds_are));
  texts_are = subst (Each IsPolicyText) (sym b) h.texts_are;
  texts_apart = subst (IsDistinct bytes_eq) (sym b) h.texts_apart;
  sets_apart = subst (IsDistinct bytes_eq) (sym a) h.sets_apart;
  total =
      let x = ap (λ ys. sum_by (λ r. r.0) (map run_of ys)) f ∙ sum-push rs (longer_run n r) in
      let y = ap (λ ys. sum_by (λ r. r.0) (map run_of ys)) (sym e) in
      let z = sum-push rs r in
      let w = h.total in
      omega (arith, x, y, z, w, l);
  count = subst (λ n. n < 2 ^ 64) (sym l) small;
}

more_same : (n m : ℕ) (s : TextSet) → replicate (n + m) s ≡ replicate n s ++ replicate m s
more_same zero m s = ap (λ k. replicate k s) (let e : 0 + m ≡ m = omega arith in e)
more_same (suc n) m s = ap (λ k. replicate k s) (let e : suc n + m ≡ suc (n + m) = omega arith in e) ∙ ap (λ v. s ∷ v) (more_same n m s)

pub marks_longer : (rs : List FrozenRun) (r : FrozenRun) (n : ℕ) → marks_of (rs ++ longer_run n r ∷ []) ≡ marks_of (rs ++ r ∷ []) ++ replicate n r.set
marks_longer rs r n =
    marks-push rs (longer_run n r) ∙ ap (λ v. marks_of rs ++ v) (more_same r.len n r.set) ∙ sym (append_assoc (marks_of rs) (replicate r.len r.set) (replicate n r.set)) ∙ ap (λ v. v ++ replicate n r.set) (sym (marks-push rs r))

-- ---- the last run
last_of : (rs : List FrozenRun) (r : FrozenRun) → slice_get (rs ++ r ∷ []) (length rs) ≡ Some r
last_of [] r = refl
last_of (x ∷ rs) r = last_of rs r

apart_from : (s : TextSet) (rs : List FrozenRun) (r : FrozenRun) → r.set ≢ s → EndsApart s (rs ++ r ∷ [])
apart_from s [] r h = h
apart_from s (x ∷ []) r h = h
apart_from s (x ∷ y ∷ rs) r h = apart_from s (y ∷ rs) r h

-- a list that isn't empty has a last item
pub last_item : (x : FrozenRun) (xs : List FrozenRun) → (front : List FrozenRun) × (r : FrozenRun) × (x ∷ xs ≡ front ++ r ∷ [])
last_item x [] = ([], x, refl)
last_item x (y ∷ xs) = let w = last_item y xs in (x ∷ w.0, w.1, ap (λ zs. x ∷ zs) w.2)

each_last : (P : FrozenRun → Type 0) (rs : List FrozenRun) (r : FrozenRun) → Each P (rs ++ r ∷ []) → P r
each_last P [] r h = h.0
each_last P (x ∷ rs) r h = each_last P rs r h.1

get_last : (rs : List FrozenRun) (r d : FrozenRun) (i : ℕ) → i ≡ length rs → get_or (rs ++ r ∷ []) i d ≡ r
get_last [] r d zero e = refl
get_last [] r d (suc i) e = absurd (omega arith)
get_last (x ∷ rs) r d zero e = absurd (omega arith)
get_last (x ∷ rs) r d (suc i) e = get_last rs r d i (omega arith)

set_last : (rs : List FrozenRun) (r y : FrozenRun) (i : ℕ) → i ≡ length rs → slice_set (rs ++ r ∷ []) i y ≡ rs ++ y ∷ []
set_last [] r y zero e = refl
set_last [] r y (suc i) e = absurd (omega arith)
set_last (x ∷ rs) r y zero e = absurd (omega arith)
set_last (x ∷ rs) r y (suc i) e = ap (λ zs. x ∷ zs) (set_last rs r y i (omega arith))

place_last : (rs : List FrozenRun) (r : FrozenRun) (i : ℕ) → i ≡ length (rs ++ r ∷ []) - 1 → i ≡ length rs
place_last rs r i e = let l : length (rs ++ r ∷ []) ≡ length rs + 1 = length-append rs (r ∷ []) in omega (arith, l, e)

-- whether the last run has this set, by the number of its set
pub ends_at : (t : Table) (k : Kind) (x d : FrozenRun) (i : ℕ) (b : Bool) → IsTable t → IsKindOf t k → i ≡ length t.runs.items - 1 → 0 < length t.runs.items → x ≡ get_or t.runs.items i d → b ≡ nat_eq x.kind k.number → Ends k.set t.runs.items b
ends_at t k x d i b h known place_is some is test = by t.runs.items refl some
  where
    joined : (front : List FrozenRun) (r : FrozenRun) → t.runs.items ≡ front ++ r ∷ [] → (c : Bool) → c ≡ nat_eq r.kind k.number → Ends k.set t.runs.items c
    joined front r e true f =
        (front, r, e, kind_set t.sets.keys t.texts.keys r.kind k.number r.set k.set (each_last (λ r. IsKind t r.kind r.set) front r (subst (Each (λ r. IsKind t r.kind r.set)) e h.kinds_are)).0 known.0 (number_from r.kind k.number (sym f)))
    joined front r e false f =
        subst (EndsApart k.set) (sym e) (apart_from k.set front r (λ same. true≢false (sym (number_same r.kind k.number
        (set_kind t.sets.keys t.texts.keys r.kind k.number r.set k.set h.sets_apart h.texts_apart (each_last (λ r. IsKind t r.kind r.set) front r (subst (Each (λ r. IsKind t r.kind r.set)) e h.kinds_are)).0 known.0 same)) ∙ sym f)))

    by : (rs : List FrozenRun) → t.runs.items ≡ rs → 0 < length rs → Ends k.set t.runs.items b
    by [] e some = absurd (omega arith)
    by (y ∷ ys) e some =
        let w = last_item y ys in
        let whole : t.runs.items ≡ w.0 ++ w.1 ∷ [] = e ∙ w.2 in
        let place : i ≡ length w.0 = place_last w.0 w.1 i (subst (λ zs. i ≡ length zs - 1) whole place_is) in
        let same : x ≡ w.1 = is ∙ ap (λ zs. get_or zs i d) whole ∙ get_last w.0 w.1 d i place in
        joined w.0 w.1 whole b (test ∙ ap (λ r. nat_eq r.kind k.number) same)

pub ends_empty : (s : TextSet) (rs : List FrozenRun) → length rs ≡ 0 → EndsApart s rs
ends_empty s [] e = tt
ends_empty s (x ∷ rs) e = absurd (omega arith)

-- ---- the last run, with more bytes
pub last_low : (t : Table) (s : TextSet) (x d : FrozenRun) (i : ℕ) → IsTable t → EndsWith s t.runs.items → i ≡ length t.runs.items - 1 → x ≡ get_or t.runs.items i d → x.len ≤ t.len
last_low t s x d i h w e is =
    let place : i ≡ length w.0 = place_last w.0 w.1 i (subst (λ zs. i ≡ length zs - 1) w.2 e) in
    let same : x.len ≡ w.1.len = ap (λ r. r.len) (is ∙ ap (λ zs. get_or zs i d) w.2 ∙ get_last w.0 w.1 d i place) in
    let sum = ap (λ ys. sum_by (λ r. r.0) (map run_of ys)) w.2 ∙ sum-push w.0 w.1 in
    let total = h.total in
    omega (arith, same, sum, total)

pub some_runs : (s : TextSet) (rs : List FrozenRun) → EndsWith s rs → 0 < length rs
some_runs s rs w = let l : length (w.0 ++ w.1 ∷ []) ≡ length w.0 + 1 = length-append w.0 (w.1 ∷ []) in let e = ap length w.2 in omega (arith, l, e)

-- the runs after the last one got more bytes
pub last_longer : (rs : List FrozenRun) (s : TextSet) (x d : FrozenRun) (i n : ℕ) (w : EndsWith s rs) → i ≡ length rs - 1 → x ≡ get_or rs i d → slice_set rs i (longer_run n x) ≡ w.0 ++ longer_run n w.1 ∷ []
last_longer rs s x d i n w e is =
    let place : i ≡ length w.0 = place_last w.0 w.1 i (subst (λ zs. i ≡ length zs - 1) w.2 e) in
    let same : x ≡ w.1 = is ∙ ap (λ zs. get_or zs i d) w.2 ∙ get_last w.0 w.1 d i place in
    ap (λ zs. slice_set zs i (longer_run n x)) w.2 ∙ set_last w.0 w.1 (longer_run n x) i place ∙ ap (λ r. w.0 ++ longer_run n r ∷ []) same

pub kinds_same : (t u : Table) (ks : List Kind) → u.sets.keys ≡ t.sets.keys → u.texts.keys ≡ t.texts.keys → Each (IsKindOf t) ks → Each (IsKindOf u) ks
kinds_same t u ks a b h = each_map (IsKindOf t) (IsKindOf u) ks (λ k p. kind_same t u k.number k.set a b p) h

got : (xs : List FrozenRun) (i : ℕ) (x : FrozenRun) → slice_get xs i ≡ Some x → (x ≡ get_or xs i x) × (i < length xs)
got [] i x e = absurd (none_some x e)
got (y ∷ xs) zero x e = (sym (from_some y x e), omega arith)
got (y ∷ xs) (suc i) x e = let g = got xs i x e in (g.0, let l = g.1 in omega (arith, l))

pub ends_found : (t : Table) (k : Kind) (x : FrozenRun) → IsTable t → IsKindOf t k → Some x ≡ slice_get t.runs.items (length t.runs.items - 1) → Ends k.set t.runs.items (nat_eq x.kind k.number)
ends_found t k x h known e =
    let g = got t.runs.items (length t.runs.items - 1) x (sym e) in
    ends_at t k x x (length t.runs.items - 1) (nat_eq x.kind k.number) h known refl (let l = g.1 in omega (arith, l)) g.0 refl

pub lengthened : (rs : List FrozenRun) (s : TextSet) (x y : FrozenRun) (i n : ℕ) (w : EndsWith s rs) → i ≡ length rs - 1 → x ≡ get_or rs i x → y ≡ get_or rs i y
    → slice_set rs i (record { len = x.len + n; set = y.set; kind = y.kind }) ≡ w.0 ++ longer_run n w.1 ∷ []
lengthened rs s x y i n w e a b =
    let place : i ≡ length w.0 = place_last w.0 w.1 i (subst (λ zs. i ≡ length zs - 1) w.2 e) in
    let xs : x ≡ w.1 = a ∙ ap (λ zs. get_or zs i x) w.2 ∙ get_last w.0 w.1 x i place in
    let ys : y ≡ w.1 = b ∙ ap (λ zs. get_or zs i y) w.2 ∙ get_last w.0 w.1 y i place in
    ap (λ zs. slice_set zs i (record { len = x.len + n; set = y.set; kind = y.kind })) w.2 ∙ set_last w.0 w.1 (record { len = x.len + n; set = y.set; kind = y.kind }) i place
    ∙ ap (λ (r : FrozenRun). w.0 ++ record { len = r.len + n; set = y.set; kind = y.kind } ∷ []) xs ∙ ap (λ (r : FrozenRun). w.0 ++ record { len = w.1.len + n; set = r.set; kind = r.kind } ∷ []) ys
