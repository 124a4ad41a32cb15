-- The runtime keeps literals as cells that carry their policies.
use Rattle.std.proofs.Common.{◌≡◌, ℕ, ℤ, suc, List, [], ◌∷◌, ◌++◌, length, map, Option, Some, None, Result, Ok, Err, refl, sym, ap, subst, ◌∙◌, arith, append_assoc, append-nil}
use Rattle.std.specs.Prelude.{zip}
use Rattle.std.specs.Option.{option_map, option_and_then}
use Rattle.std.proofs.lemmas.Slice.Zip.{firsts-zip, seconds-zip}
use Rattle.resin_base.specs.declared.cell.Cell.TheVariants as cell
use Rattle.resin_base.specs.declared.stored.StoredCell.{StoredCell}
use Rattle.resin_shadow.specs.Marks.{Marks}
use Rattle.resin_shadow.specs.Shadows.{written2}
use Rattle.resin_store.specs.Cells.{LabelledCell, Text, Integer, Null, stored, plain_cell}
use Rattle.resin_store.specs.Entries.{Second}
use Rattle.resin_meaning_forms.specs.Cells.{integer_byte, kept_shadow, kept_literal, kept_literals}
use Rattle.resin_meaning_forms.specs.Keeping.{each_of, frozen_set, frozen_marks, or_not_storable, freeze_text}
use Rattle.resin_meaning_forms.specs.Merges.{folded}
use Rattle.resin_meaning_forms.specs.Parts.{Evals, looked}
use Rattle.resin_meaning_forms.specs.Under.label.Sets.{NumberSet}
use Rattle.resin_meaning_forms.specs.Under.lstr.Texts.{bytes_of, carrying}
use Rattle.resin_meaning_forms.specs.Under.lstr.Texts.{Text as LabelledText}
use Rattle.resin_meaning_forms.specs.Under.machine.State.{State}
use Rattle.resin_meaning_forms.specs.Under.machine.declared.stop.Stop.{Stop}
use Rattle.resin_meaning_forms.specs.Under.meaning.Programs.{Whole, Prog, give, then_by, on_value, ◌>>=◌, act}
use Rattle.resin_meaning_forms.specs.Under.meaning_tables.Under.sql.Labels.{labelled}
use Rattle.resin_meaning_forms.specs.Under.meaning_tables.Under.sql_words.declared.literals.Literal.{Literal}
use Rattle.resin_meaning_forms.specs.Under.meaning_tables.Under.sql_words.declared.literals.Span.{Span}
use Rattle.resin_meaning_forms.specs.Under.meaning_tables.Under.sql_words.declared.literals.Literal.TheVariants as l
use Rattle.resin_statement_laws.specs.Effects.{plain_values}
use Rattle.resin_statement_laws.specs.Literals.{IsKept, IsCellOf, AreCellsOf, AreKept, KeepsLiterals}

-- ---- a program and what goes on with its value

-- where both have one, the first had one
record Both {A B : Type 0} (p : Prog A) (f : A → Prog B) (failing : List ℕ) (at : Whole) (b : B) : Type 0 where
  value : A
  first : (p failing at).end ≡ Ok value
  then : (f value failing (p failing at).whole).end ≡ Ok b

both_had : {A B : Type 0} (p : Prog A) (f : A → Prog B) (failing : List ℕ) (at : Whole) (b : B) → ((p >>= f) failing at).end ≡ Ok b → Both p f failing at b
unfolding ◌>>=◌ then_by
both_had {A = A} p f failing at b e = by (p failing at).end refl e
  where
    by : (r : Result A Stop) → (p failing at).end ≡ r → (on_value f r failing (p failing at).whole).end ≡ Ok b → Both p f failing at b
    by (Ok a) is g = record { value = a; first = is; then = g }
    by (Err s) is g = absurd (cc)

given : {A : Type 0} (a b : A) (r : Result A Stop) → r ≡ Ok a → r ≡ Ok b → a ≡ b
given {A = A} a b r e f = let same : Ok a ≡ Ok b = sym e ∙ f in cc

-- ---- the sets of a text's bytes

each_length : {A : Type 0} (os : List (Option A)) (xs : List A) → each_of os ≡ Some xs → length xs ≡ length os
each_length [] xs e = let same : [] ≡ xs = cc in sym (ap length same)
each_length {A = A} (o ∷ os) xs e = first o e (λ ys is. each_length os ys is)
  where
    rest : (x : A) (r : Option (List A)) → each_of os ≡ r → option_map (λ ys. x ∷ ys) r ≡ Some xs → ((ys : List A) → each_of os ≡ Some ys → length ys ≡ length os)
        → length xs ≡ suc (length os)
    rest x None is f h = absurd (let n : None ≡ Some xs = f in cc)
    rest x (Some ys) is f h = let same : x ∷ ys ≡ xs = cc in sym (ap length same) ∙ ap suc (h ys is)

    first : (p : Option A) → option_and_then (λ x. option_map (λ ys. x ∷ ys) (each_of os)) p ≡ Some xs → ((ys : List A) → each_of os ≡ Some ys → length ys ≡ length os)
        → length xs ≡ suc (length os)
    first None f h = absurd (let n : None ≡ Some xs = f in cc)
    first (Some x) f h = rest x (each_of os) refl f h

length_map : {A B : Type 0} (f : A → B) (xs : List A) → length (map f xs) ≡ length xs
length_map f [] = refl
length_map f (x ∷ xs) = ap suc (length_map f xs)

-- what is kept of a text's policies: the sets of its bytes, as they are frozen
record Shadow (t : LabelledText) (shadow : List ℕ) : Type 0 where
  state : State
  marks : Marks
  frozen : frozen_marks state t ≡ Some marks
  is : shadow ≡ written2 marks
  long : length marks ≡ length t

frozen_of : (t : LabelledText) (failing : List ℕ) (at : Whole) (w : Marks) → (freeze_text t failing at).end ≡ Ok w → frozen_marks at.state t ≡ Some w
unfolding act
frozen_of t failing at w e =
    let b = both_had (looked (λ m. frozen_marks m t)) or_not_storable failing at w e in
    let is : frozen_marks at.state t ≡ b.value = given (frozen_marks at.state t) b.value (Ok (frozen_marks at.state t)) refl b.first in
    by b.value is b.then
  where
    by : (o : Option Marks) → frozen_marks at.state t ≡ o → (or_not_storable o failing (looked (λ m. frozen_marks m t) failing at).whole).end ≡ Ok w
        → frozen_marks at.state t ≡ Some w
    by None is f = absurd (cc)
    by (Some v) is f = let same : v ≡ w = cc in is ∙ ap (λ (x : Marks). let o : Option Marks = Some x in o) same

shadow_kept : (t : LabelledText) (failing : List ℕ) (at : Whole) (shadow : List ℕ) → (kept_shadow t failing at).end ≡ Ok shadow → Shadow t shadow
shadow_kept t failing at shadow e =
    let b = both_had (freeze_text t) (λ w. give (written2 w)) failing at shadow e in
    let same : written2 b.value ≡ shadow = given (written2 b.value) shadow (Ok (written2 b.value)) refl b.then in
    let frozen = frozen_of t failing at b.value b.first in
    record {
      state = at.state;
      marks = b.value;
      frozen = frozen;
      is = sym same;
      long = each_length (map (λ b. frozen_set at.state b.1) t) b.value frozen ∙ length_map (λ b. frozen_set at.state b.1) t;
    }

-- ---- a literal

abbrev One : LabelledText → Literal → StoredCell → Type 0
One t x c = (v : LabelledCell) × (plain_cell v ≡ c) × IsCellOf t x v × IsKept v

text_kept : (t : LabelledText) (span : Span) (shadow : List ℕ) → Shadow (labelled t (l.Text span)) shadow
    → One t (l.Text span) (stored (cell.Text (bytes_of (labelled t (l.Text span)))) (cell.Text shadow))
text_kept t span shadow s =
    let own = labelled t (l.Text span) in
    let long : length s.marks ≡ length (bytes_of own) = s.long ∙ sym (length_map (λ p. p.0) own) in (
      Text (zip (bytes_of own) s.marks) Second,
      ap (λ bs. stored (cell.Text bs) (cell.Text (written2 (map (λ b. b.1) (zip (bytes_of own) s.marks))))) (firsts-zip (bytes_of own) s.marks long)
          ∙ ap (λ (w : Marks). stored (cell.Text (bytes_of own)) (cell.Text (written2 w))) (seconds-zip (bytes_of own) s.marks long)
          ∙ ap (λ x. stored (cell.Text (bytes_of own)) (cell.Text x)) (sym s.is),
      (s.state, s.marks, s.frozen, refl),
      tt,
    )

integer_kept : (t : LabelledText) (n : ℤ) (span : Span) (merged : NumberSet) (shadow : List ℕ) → Shadow (carrying merged integer_byte) shadow
    → One t (l.Integer n span) (stored (cell.Int n) (cell.Text shadow))
integer_kept t n span merged shadow s = by s.marks s.frozen s.is s.long
  where
    by : (w : Marks) → frozen_marks s.state (carrying merged integer_byte) ≡ Some w → shadow ≡ written2 w → length w ≡ 1
        → One t (l.Integer n span) (stored (cell.Int n) (cell.Text shadow))
    by [] frozen is len = absurd (omega arith)
    by (set ∷ []) frozen is len = (Integer n set Second, ap (λ x. stored (cell.Int n) (cell.Text x)) (sym is), (s.state, merged, set, frozen, refl), tt)
    by (set ∷ other ∷ w) frozen is len = absurd (omega arith)

literal_kept : (ev : Evals) (t : LabelledText) (x : Literal) (failing : List ℕ) (at : Whole) (c : StoredCell) → (kept_literal ev t x failing at).end ≡ Ok c → One t x c
literal_kept ev t l.Null failing at c e =
    let same : stored cell.Null (cell.Text []) ≡ c = given (stored cell.Null (cell.Text [])) c (Ok (stored cell.Null (cell.Text []))) refl e in
    (Null, same, refl, tt)
literal_kept ev t (l.Integer n span) failing at c e =
    let b = both_had (folded ev (labelled t (l.Integer n span))) (λ set. kept_shadow (carrying set integer_byte) >>= λ shadow. give (stored (cell.Int n) (cell.Text shadow))) failing at c e in
    let d = both_had (kept_shadow (carrying b.value integer_byte)) (λ shadow. give (stored (cell.Int n) (cell.Text shadow))) failing _ c b.then in
    let same : stored (cell.Int n) (cell.Text d.value) ≡ c = given (stored (cell.Int n) (cell.Text d.value)) c (Ok (stored (cell.Int n) (cell.Text d.value))) refl d.then in
    subst (One t (l.Integer n span)) same (integer_kept t n span b.value d.value (shadow_kept (carrying b.value integer_byte) failing _ d.value d.first))
literal_kept ev t (l.Text span) failing at c e =
    let own = labelled t (l.Text span) in
    let b = both_had (kept_shadow own) (λ shadow. give (stored (cell.Text (bytes_of own)) (cell.Text shadow))) failing at c e in
    let same : stored (cell.Text (bytes_of own)) (cell.Text b.value) ≡ c
    = given (stored (cell.Text (bytes_of own)) (cell.Text b.value)) c (Ok (stored (cell.Text (bytes_of own)) (cell.Text b.value))) refl b.then in
    subst (One t (l.Text span)) same (text_kept t span b.value (shadow_kept own failing at b.value b.first))

-- ---- all of them

abbrev All : LabelledText → List Literal → List StoredCell → Type 0
All t xs held = (vs : List LabelledCell) × (plain_values vs ≡ held) × AreCellsOf t xs vs × AreKept vs

all_push : (t : LabelledText) (xs : List Literal) (x : Literal) (held : List StoredCell) (c : StoredCell) → All t xs held → One t x c → All t (xs ++ x ∷ []) (held ++ c ∷ [])
all_push t xs x held c a o =
    (a.0 ++ o.0 ∷ [], plain a.0 ∙ ap (λ hs. hs ++ plain_cell o.0 ∷ []) a.1 ∙ ap (λ y. held ++ y ∷ []) o.1, cells xs a.0 a.2, kept a.0 a.3)
  where
    plain : (vs : List LabelledCell) → plain_values (vs ++ o.0 ∷ []) ≡ plain_values vs ++ plain_cell o.0 ∷ []
    plain [] = refl
    plain (v ∷ vs) = ap (λ hs. plain_cell v ∷ hs) (plain vs)

    cells : (ys : List Literal) (vs : List LabelledCell) → AreCellsOf t ys vs → AreCellsOf t (ys ++ x ∷ []) (vs ++ o.0 ∷ [])
    cells [] [] k = (o.2, tt)
    cells [] (v ∷ vs) k = elim k [ ]
    cells (y ∷ ys) [] k = elim k [ ]
    cells (y ∷ ys) (v ∷ vs) k = (k.0, cells ys vs k.1)

    kept : (vs : List LabelledCell) → AreKept vs → AreKept (vs ++ o.0 ∷ [])
    kept [] k = (o.3, tt)
    kept (v ∷ vs) k = (k.0, kept vs k.1)

all_kept : (ev : Evals) (t : LabelledText) (past xs : List Literal) (so_far : List StoredCell) (failing : List ℕ) (at : Whole) (held : List StoredCell) → All t past so_far
    → (kept_literals ev t xs so_far failing at).end ≡ Ok held → All t (past ++ xs) held
all_kept ev t past [] so_far failing at held a e =
    subst (λ ys. All t ys held) (sym (append-nil past)) (subst (All t past) (given so_far held (Ok so_far) refl e) a)
all_kept ev t past (x ∷ xs) so_far failing at held a e =
    let b = both_had (kept_literal ev t x) (λ c. kept_literals ev t xs (so_far ++ c ∷ [])) failing at held e in
    subst (λ ys. All t ys held) (append_assoc past (x ∷ []) xs)
    (all_kept ev t (past ++ x ∷ []) xs (so_far ++ b.value ∷ []) failing _ held (all_push t past x so_far b.value a (literal_kept ev t x failing at b.value b.first)) b.then)

pub keeps_literals : KeepsLiterals
keeps_literals ev t xs failing at held e = all_kept ev t [] xs [] failing at held ([], refl, tt, tt) e
