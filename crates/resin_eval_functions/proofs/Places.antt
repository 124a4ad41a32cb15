-- What arguments mean by their values, by the function and by their places.
use Rattle.std.proofs.Common.{◌≡◌, ℕ, ℤ, ◌+◌, ◌<◌, ◌≤◌, List, [], ◌∷◌, length, drop, get_or, Bool, true, false, Option, None, refl, sym, ap, ◌∙◌, arith}
use Rattle.std.specs.Prelude.{min, nat_le, unwrap_or, ◌==◌, ◌&&◌, ◌++◌, zero, suc}
use Rattle.std.specs.List.{slice_get}
use Rattle.std.proofs.lemmas.Bool.Decides.{nat_tests}
use Rattle.std.proofs.Math.Seq.{drop-cons}
use Rattle.resin_eval_merges.specs.Under.label.Sets.{NumberSet, empty as no_labels}
use Rattle.resin_eval_merges.specs.Under.lstr.Texts.{Text as LabelledText}
use Rattle.resin_eval_merges.specs.Under.value.declared.value.Value.{Value}
use Rattle.resin_eval_merges.specs.Under.value.declared.value.Value.TheVariants.{Null, Bool as Truth, Int, Text, Arr, Obj}
use Rattle.resin_eval_merges.specs.Under.value.Trees.{Tree, null, boolean, integer, text, array, object}
use Rattle.resin_eval_merges.specs.Under.value.Seen.{tree_of, trees_of}
use Rattle.resin_eval_merges.specs.Under.builtin.declared.builtin.Builtin.{Builtin}
use Rattle.resin_eval_merges.specs.Under.builtin.declared.builtin.Builtin.TheVariants.{OneText, Digest, TwoTexts, Trim, OneInteger, Test, OneArray, Substr, Strpos, StrReplace, StrRepeat, Implode, StrPad, Sprintf, Intval, Intdiv, GetClass, ArrayMerge, ArraySlice, ArrayReverse, InArray, ArrayKeyExists}
use Rattle.resin_eval_merges.specs.Under.builtin.declared.signatures.ArgKind.{ArgKind}
use Rattle.resin_eval_merges.specs.Under.builtin.declared.signatures.ArgKind.TheVariants.{Any}
use Rattle.resin_eval_merges.specs.Under.builtin.Signatures.{cuts_a_part, kind_at, null_is_default, parameters}
use Rattle.resin_eval_merges.specs.Under.builtin.declared.builtin.Digest.{Digest as DigestRow}
use Rattle.resin_eval_merges.specs.Under.meaning.Programs.{give, ◌>>=◌}
use Rattle.resin_eval_merges.proofs.meaning_lemmas.Composition.{front, nothing_left}
use Rattle.resin_eval_merges.specs.Under.meaning_forms.Parts.{Evals}
use Rattle.resin_eval_merges.specs.Under.meaning_forms.Functions.{answer_set, argument, arguments, arguments_of_on, arguments_on, with_folded}
use Rattle.resin_eval_merges.proofs.eval_nested_lemmas.Arguments.{IsNoText}

-- ---- values that are no text, and no integer

abbrev pub IsNoInteger : Value → Type 0
IsNoInteger v = (n : ℤ) (s : NumberSet) → v ≡ Int n s → ⊥

pub unfolded_argument : (ev : Evals) (v : Value) (u : Tree) → IsNoText v → with_folded ev (tree_of v) u ≡ give u
unfolded_argument ev Null u isnt = refl
unfolded_argument ev (Truth b) u isnt = refl
unfolded_argument ev (Int n s) u isnt = refl
unfolded_argument ev (Text t) u isnt = absurd (isnt t refl)
unfolded_argument ev (Arr a) u isnt = refl
unfolded_argument ev (Obj o) u isnt = refl

pub unfolded_value : (ev : Evals) (x : LabelledText) (v : Value) → IsNoInteger v → with_folded ev (text x) (tree_of v) ≡ give (tree_of v)
unfolded_value ev x Null isnt = refl
unfolded_value ev x (Truth b) isnt = refl
unfolded_value ev x (Int n s) isnt = absurd (isnt n s refl)
unfolded_value ev x (Text t) isnt = refl
unfolded_value ev x (Arr a) isnt = refl
unfolded_value ev x (Obj o) isnt = refl

pub no_text_first : (ev : Evals) (v : Value) (ts : List Tree) → IsNoText v → answer_set ev Intval (tree_of v ∷ ts) ≡ give no_labels
no_text_first ev Null ts isnt = refl
no_text_first ev (Truth b) ts isnt = refl
no_text_first ev (Int n s) ts isnt = refl
no_text_first ev (Text t) ts isnt = absurd (isnt t refl)
no_text_first ev (Arr a) ts isnt = refl
no_text_first ev (Obj o) ts isnt = refl

pub no_left_integer : (ev : Evals) (v : Value) (u : Tree) (ts : List Tree) → IsNoInteger v → answer_set ev Intdiv (tree_of v ∷ u ∷ ts) ≡ give no_labels
no_left_integer ev Null u ts isnt = refl
no_left_integer ev (Truth b) u ts isnt = refl
no_left_integer ev (Int n s) u ts isnt = absurd (isnt n s refl)
no_left_integer ev (Text t) u ts isnt = refl
no_left_integer ev (Arr a) u ts isnt = refl
no_left_integer ev (Obj o) u ts isnt = refl

pub no_right_integer : (ev : Evals) (m : ℤ) (q : NumberSet) (v : Value) (ts : List Tree) → IsNoInteger v → answer_set ev Intdiv (integer m q ∷ tree_of v ∷ ts) ≡ give no_labels
no_right_integer ev m q Null ts isnt = refl
no_right_integer ev m q (Truth b) ts isnt = refl
no_right_integer ev m q (Int n s) ts isnt = absurd (isnt n s refl)
no_right_integer ev m q (Text t) ts isnt = refl
no_right_integer ev m q (Arr a) ts isnt = refl
no_right_integer ev m q (Obj o) ts isnt = refl

-- ---- further arguments, and missing ones

pub quotient_more : (ev : Evals) (a b : Tree) (ts : List Tree) → answer_set ev Intdiv (a ∷ b ∷ ts) ≡ answer_set ev Intdiv (a ∷ b ∷ [])
quotient_more ev null b ts = refl
quotient_more ev (boolean x) b ts = refl
quotient_more ev (integer n s) null ts = refl
quotient_more ev (integer n s) (boolean b2) ts = refl
quotient_more ev (integer n s) (integer n2 s2) ts = refl
quotient_more ev (integer n s) (text t2) ts = refl
quotient_more ev (integer n s) (array r2 l2 h2) ts = refl
quotient_more ev (integer n s) (object o2) ts = refl
quotient_more ev (text t) b ts = refl
quotient_more ev (array r l h) b ts = refl
quotient_more ev (object o) b ts = refl

pub no_quotient : (ev : Evals) (a : Tree) → answer_set ev Intdiv (a ∷ []) ≡ give no_labels
no_quotient ev null = refl
no_quotient ev (boolean b) = refl
no_quotient ev (integer n s) = refl
no_quotient ev (text t) = refl
no_quotient ev (array r l h) = refl
no_quotient ev (object o) = refl

-- ---- by the function

pub digest_set : (ev : Evals) (row : DigestRow) (ts : List Tree) → answer_set ev (Digest row) ts ≡ answer_set ev Intval ts
digest_set ev row [] = refl
digest_set ev row (null ∷ ts) = refl
digest_set ev row (boolean b ∷ ts) = refl
digest_set ev row (integer n s ∷ ts) = refl
digest_set ev row (text t ∷ ts) = refl
digest_set ev row (array r l h ∷ ts) = refl
digest_set ev row (object o ∷ ts) = refl

pub other_set : (ev : Evals) (b : Builtin) (ts : List Tree) → ((row : DigestRow) → b ≡ Digest row → ⊥) → (b ≡ Intval → ⊥) → (b ≡ Intdiv → ⊥) → answer_set ev b ts ≡ give no_labels
other_set ev (OneText row) ts d i q = refl
other_set ev (Digest row) ts d i q = absurd (d row refl)
other_set ev (TwoTexts row) ts d i q = refl
other_set ev (Trim side) ts d i q = refl
other_set ev (OneInteger row) ts d i q = refl
other_set ev (Test kind) ts d i q = refl
other_set ev (OneArray row) ts d i q = refl
other_set ev Substr ts d i q = refl
other_set ev Strpos ts d i q = refl
other_set ev StrReplace ts d i q = refl
other_set ev StrRepeat ts d i q = refl
other_set ev Implode ts d i q = refl
other_set ev StrPad ts d i q = refl
other_set ev Sprintf ts d i q = refl
other_set ev Intval ts d i q = absurd (i refl)
other_set ev Intdiv ts d i q = absurd (q refl)
other_set ev GetClass ts d i q = refl
other_set ev ArrayMerge ts d i q = refl
other_set ev ArraySlice ts d i q = refl
other_set ev ArrayReverse ts d i q = refl
other_set ev InArray ts d i q = refl
other_set ev ArrayKeyExists ts d i q = refl

pub by_place : (ev : Evals) (b : Builtin) (ts : List Tree) → (b ≡ Sprintf → ⊥) → arguments ev b ts ≡ arguments_on ev b [] 0 ts
by_place ev (OneText row) ts isnt = refl
by_place ev (Digest row) ts isnt = refl
by_place ev (TwoTexts row) ts isnt = refl
by_place ev (Trim side) ts isnt = refl
by_place ev (OneInteger row) ts isnt = refl
by_place ev (Test kind) ts isnt = refl
by_place ev (OneArray row) ts isnt = refl
by_place ev Substr ts isnt = refl
by_place ev Strpos ts isnt = refl
by_place ev StrReplace ts isnt = refl
by_place ev StrRepeat ts isnt = refl
by_place ev Implode ts isnt = refl
by_place ev StrPad ts isnt = refl
by_place ev Sprintf ts isnt = absurd (isnt refl)
by_place ev Intval ts isnt = refl
by_place ev Intdiv ts isnt = refl
by_place ev GetClass ts isnt = refl
by_place ev ArrayMerge ts isnt = refl
by_place ev ArraySlice ts isnt = refl
by_place ev ArrayReverse ts isnt = refl
by_place ev InArray ts isnt = refl
by_place ev ArrayKeyExists ts isnt = refl

-- ---- places from 255 on are alike

slice_past : {X : Type 0} (xs : List X) (i : ℕ) → length xs ≤ i → slice_get xs i ≡ None
slice_past [] i h = refl
slice_past (x ∷ xs) zero h = absurd (omega arith)
slice_past (x ∷ xs) (suc i) h = slice_past xs i (omega arith)

few : (b : Builtin) → length ((parameters b).needed ++ (parameters b).optional) ≤ 4
few (OneText row) = omega arith
few (Digest row) = omega arith
few (TwoTexts row) = omega arith
few (Trim side) = omega arith
few (OneInteger row) = omega arith
few (Test kind) = omega arith
few (OneArray row) = omega arith
few Substr = omega arith
few Strpos = omega arith
few StrReplace = omega arith
few StrRepeat = omega arith
few Implode = omega arith
few StrPad = omega arith
few Sprintf = omega arith
few Intval = omega arith
few Intdiv = omega arith
few GetClass = omega arith
few ArrayMerge = omega arith
few ArraySlice = omega arith
few ArrayReverse = omega arith
few InArray = omega arith
few ArrayKeyExists = omega arith

within_or_past : (i : ℕ) {P : Type 0} → (i ≤ 255 → P) → (255 < i → P) → P
within_or_past i {P = P} near far = by (nat_le i 255) refl
  where
    by : (b : Bool) → nat_le i 255 ≡ b → P
    by true e = near (grind (arith, nat_tests))
    by false e = far (grind (arith, nat_tests))

pub kind_placed : (b : Builtin) (i : ℕ) → kind_at (parameters b) (min i 255) ≡ kind_at (parameters b) i
kind_placed b i =
    let ks = (parameters b).needed ++ (parameters b).optional in
    within_or_past i
    (λ near. let e : min i 255 ≡ i = omega arith in ap (λ n. kind_at (parameters b) n) e)
    (λ far. ap (λ (o : Option ArgKind). unwrap_or o (unwrap_or (parameters b).more Any))
    (slice_past ks (min i 255) (omega (arith, few b)) ∙ sym (slice_past ks i (omega (arith, few b)))))

third : (i : ℕ) → (min i 255 == 2) ≡ (i == 2)
third i = within_or_past i (λ near. let e : min i 255 ≡ i = omega arith in ap (λ n. n == 2) e) (λ far. grind (arith, nat_tests))

pub null_placed : (b : Builtin) (i : ℕ) → null_is_default b (min i 255) ≡ null_is_default b i
null_placed b i = ap (λ x. cuts_a_part b && x) (third i)

-- ---- too few arguments

pub no_short_quotient : (ev : Evals) (ts : List Tree) → length ts < 2 → answer_set ev Intdiv ts ≡ give no_labels
no_short_quotient ev [] lt = refl
no_short_quotient ev (t ∷ []) lt = no_quotient ev t
no_short_quotient ev (t ∷ u ∷ ts) lt = absurd (omega (arith, lt))

-- ---- arguments by their kinds

next_kind : (kinds : List ArgKind) (i : ℕ) (kind : ArgKind) → i < length kinds → drop i kinds ≡ get_or kinds i kind ∷ drop (i + 1) kinds
next_kind kinds i kind lt = drop-cons kinds i kind lt ∙ ap (λ n. get_or kinds i kind ∷ drop n kinds) (let h : suc i ≡ i + 1 = omega arith in h)

-- the next argument of those that are left, with its kind
pub next_argument : (ev : Evals) (vs : List Tree) (kinds : List ArgKind) (args : List Value) (i : ℕ) (kind : ArgKind) (v : Value) → i < length kinds → i < length args → v ≡ get_or args i v
    → arguments_of_on ev vs (drop i kinds) (trees_of (drop i args)) ≡ (argument ev (get_or kinds i kind) false (tree_of v) >>= λ t. arguments_of_on ev (vs ++ t ∷ []) (drop (i + 1) kinds) (trees_of (drop (i + 1) args)))
next_argument ev vs kinds args i kind v kinds_left args_left is = λ j. arguments_of_on ev vs (next_kind kinds i kind kinds_left j) (trees_of (front args i v args_left is j))

pub no_more_kinds : (ev : Evals) (vs : List Tree) (kinds : List ArgKind) (i : ℕ) (ts : List Tree) → length kinds ≤ i → arguments_of_on ev vs (drop i kinds) ts ≡ give vs
no_more_kinds ev vs kinds i ts le = ap (λ (ks : List ArgKind). arguments_of_on ev vs ks ts) (nothing_left kinds i le)

no_tree : (ev : Evals) (vs : List Tree) (kinds : List ArgKind) → arguments_of_on ev vs kinds [] ≡ give vs
no_tree ev vs [] = refl
no_tree ev vs (kind ∷ kinds) = refl

pub no_more_arguments : (ev : Evals) (vs : List Tree) (kinds : List ArgKind) (args : List Value) (i : ℕ) → length args ≤ i → arguments_of_on ev vs (drop i kinds) (trees_of (drop i args)) ≡ give vs
no_more_arguments ev vs kinds args i le = ap (λ (xs : List Value). arguments_of_on ev vs (drop i kinds) (trees_of xs)) (nothing_left args i le) ∙ no_tree ev vs (drop i kinds)
