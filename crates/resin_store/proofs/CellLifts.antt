-- What lifting a cell gives.
use Rattle.std.proofs.Common.{◌≡◌, ◌≢◌, ℕ, ℤ, Bool, true, false, List, [], ◌∷◌, length, refl, sym, ap, ◌∙◌, arith}
use Rattle.std.proofs.lemmas.Bool.{true≢false}
use Rattle.resin_base.specs.FileStore.{entry_of}
use Rattle.resin_base.specs.declared.cell.Cell.{Cell}
use Rattle.resin_base.specs.declared.cell.Cell.TheVariants as cell
use Rattle.resin_base.specs.declared.cell.Kind.{Kind}
use Rattle.resin_base.specs.declared.cell.Kind.TheVariants as kind
use Rattle.resin_base.specs.declared.files.Entry.{Entry}
use Rattle.resin_shadow.specs.Marks.{TextSet}
use Rattle.resin_store.specs.Entries.{Marked, plain_bytes, marks, Version, Second, written, LabelledEntry, Good, Bad, plain, lift}
use Rattle.resin_store.specs.Cells.{LabelledCell, Text, Integer, stored, plain_cell, lifted_text, one_byte, integer_with, lifted_integer, lifted_cell}
use Rattle.resin_store.specs.Laws.{KeepsCells, LiftsTexts, LiftsIntegers}
use Rattle.resin_store.proofs.Lifts.{keeps_entries, lifts_good}

abbrev head_of : List ℕ → ℕ
head_of [] = 0
head_of (m ∷ ms) = m

-- what one byte is told to be
record IsOne (shadow : List ℕ) (d : Marked) (v : Version) : Type 0 where
  set : TextSet
  is : d ≡ (0, set) ∷ []
  text : written v (set ∷ []) ≡ shadow

one_of : (shadow : List ℕ) (v : Version) (d : Marked) → plain_bytes d ≡ 0 ∷ [] → written v (marks d) ≡ shadow → IsOne shadow d v
one_of shadow v [] b x = absurd (let n = ap length b in omega (arith, n))
one_of shadow v (c ∷ []) b x = record { set = c.1; is = ap (λ n. (n, c.1) ∷ []) (ap head_of b); text = x }
one_of shadow v (c ∷ f ∷ d) b x = absurd (let n = ap length b in omega (arith, n))

one_set : (shadow : List ℕ) (d : Marked) (v : Version) → lift (one_byte shadow) ≡ Good d v → IsOne shadow d v
one_set shadow d v e =
    let p : plain (Good d v) ≡ one_byte shadow = ap plain (sym e) ∙ keeps_entries (one_byte shadow) in
    one_of shadow v d (ap (λ (x : Entry). x.bytes) p) (ap (λ (x : Entry). x.shadow) p)

text_back : (bytes shadow : List ℕ) (x : LabelledEntry) → lift (entry_of bytes shadow) ≡ x → plain_cell (lifted_text bytes shadow x) ≡ stored (cell.Text bytes) (cell.Text shadow)
text_back bytes shadow (Good d v) e =
    let p : plain (Good d v) ≡ entry_of bytes shadow = ap plain (sym e) ∙ keeps_entries (entry_of bytes shadow) in
    ap (λ (y : Entry). stored (cell.Text y.bytes) (cell.Text y.shadow)) p
text_back bytes shadow (Bad b y) e = refl

integer_back : (n : ℤ) (shadow : List ℕ) (x : LabelledEntry) → lift (one_byte shadow) ≡ x → plain_cell (lifted_integer n shadow x) ≡ stored (cell.Int n) (cell.Text shadow)
integer_back n shadow (Good d v) e =
    let o = one_set shadow d v e in
    ap (λ ds. plain_cell (integer_with n shadow (marks ds) v)) o.is ∙ ap (λ y. stored (cell.Int n) (cell.Text y)) o.text
integer_back n shadow (Bad b y) e = refl

keeps : (k : Kind) (v s : Cell) → plain_cell (lifted_cell k v s) ≡ stored v s
keeps kind.Text (cell.Text bytes) (cell.Text shadow) = text_back bytes shadow (lift (entry_of bytes shadow)) refl
keeps kind.Text (cell.Text bytes) (cell.Int n) = refl
keeps kind.Text (cell.Text bytes) cell.Null = refl
keeps kind.Text (cell.Int n) (cell.Text shadow) = refl
keeps kind.Text (cell.Int n) (cell.Int m) = refl
keeps kind.Text (cell.Int n) cell.Null = refl
keeps kind.Text cell.Null (cell.Text []) = refl
keeps kind.Text cell.Null (cell.Text (b ∷ bs)) = refl
keeps kind.Text cell.Null (cell.Int n) = refl
keeps kind.Text cell.Null cell.Null = refl
keeps kind.Integer (cell.Int n) (cell.Text shadow) = integer_back n shadow (lift (one_byte shadow)) refl
keeps kind.Integer (cell.Int n) (cell.Int m) = refl
keeps kind.Integer (cell.Int n) cell.Null = refl
keeps kind.Integer (cell.Text bytes) (cell.Text shadow) = refl
keeps kind.Integer (cell.Text bytes) (cell.Int n) = refl
keeps kind.Integer (cell.Text bytes) cell.Null = refl
keeps kind.Integer cell.Null (cell.Text []) = refl
keeps kind.Integer cell.Null (cell.Text (b ∷ bs)) = refl
keeps kind.Integer cell.Null (cell.Int n) = refl
keeps kind.Integer cell.Null cell.Null = refl

pub keeps_cells : KeepsCells
keeps_cells k c = keeps k c.value c.shadow

-- ---- what a cell is told to be
abbrev marked_in : LabelledCell → Marked
marked_in (Text d v) = d
marked_in c = []

abbrev set_in : LabelledCell → TextSet
set_in (Integer n s v) = s
set_in c = []

abbrev version_in : LabelledCell → Version
version_in (Text d v) = v
version_in (Integer n s v) = v
version_in c = Second

abbrev is_text : LabelledCell → Bool
is_text (Text d v) = true
is_text c = false

abbrev is_integer : LabelledCell → Bool
is_integer (Integer n s v) = true
is_integer c = false

good_same : (d d' : Marked) (v v' : Version) → d ≡ d' → v ≡ v' → Good d v ≡ Good d' v'
good_same d d' v v' e f = ap (λ x. Good x v) e ∙ ap (λ x. Good d' x) f

text_from : (bytes shadow : List ℕ) (d : Marked) (v : Version) (x : LabelledEntry) → lifted_text bytes shadow x ≡ Text d v → x ≡ Good d v
text_from bytes shadow d v (Good d' v') e = good_same d' d v' v (ap marked_in e) (ap version_in e)
text_from bytes shadow d v (Bad b y) e = absurd (true≢false (sym (ap is_text e)))

pub lifts_texts : LiftsTexts
lifts_texts bytes shadow d v held = (
  λ e. (lifts_good (entry_of bytes shadow) d v held).0 (text_from bytes shadow d v (lift (entry_of bytes shadow)) e),
  λ t. ap (lifted_text bytes shadow) ((lifts_good (entry_of bytes shadow) d v held).1 t),
)

integer_from : (n : ℤ) (shadow : List ℕ) (s : TextSet) (v : Version) (x : LabelledEntry) → lift (one_byte shadow) ≡ x → lifted_integer n shadow x ≡ Integer n s v → x ≡ Good ((0, s) ∷ []) v
integer_from n shadow s v (Good d' v') is e =
    let o = one_set shadow d' v' is in
    let f : Integer n o.set v' ≡ Integer n s v = ap (λ ds. integer_with n shadow (marks ds) v') (sym o.is) ∙ e in
    good_same d' ((0, s) ∷ []) v' v (o.is ∙ ap (λ (t : TextSet). (0, t) ∷ []) (ap set_in f)) (ap version_in f)
integer_from n shadow s v (Bad b y) is e = absurd (true≢false (sym (ap is_integer e)))

pub lifts_integers : LiftsIntegers
lifts_integers n shadow s v held = (
  λ e. (lifts_good (one_byte shadow) ((0, s) ∷ []) v held).0 (integer_from n shadow s v (lift (one_byte shadow)) refl e),
  λ t. ap (lifted_integer n shadow) ((lifts_good (one_byte shadow) ((0, s) ∷ []) v held).1 t),
)
