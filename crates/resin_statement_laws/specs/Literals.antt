-- How the runtime keeps the literals of a statement, as cells that carry their policies.
use Rattle.std.specs.Prelude.{◌≡◌, ℕ, ◌<◌, ◌^◌, List, [], ◌∷◌, length, zip, ⊤, Some, Ok}
use Rattle.resin_base.specs.declared.stored.StoredCell.{StoredCell}
use Rattle.resin_shadow.specs.Marks.{TextSet, Marks, AreMarks}
use Rattle.resin_shadow.specs.Shadows.{written2}
use Rattle.resin_store.specs.Cells.{LabelledCell, Text, Integer, Null, Damaged}
use Rattle.resin_store.specs.Entries.{First, Second, marks}
use Rattle.resin_meaning_forms.specs.Cells.{integer_byte, kept_literals}
use Rattle.resin_meaning_forms.specs.Keeping.{frozen_marks}
use Rattle.resin_meaning_forms.specs.Parts.{Evals}
use Rattle.resin_meaning_forms.specs.Under.label.Sets.{NumberSet}
use Rattle.resin_meaning_forms.specs.Under.lstr.Texts.{bytes_of, carrying}
use Rattle.resin_meaning_forms.specs.Under.lstr.Texts.{Text as LabelledText}
use Rattle.resin_meaning_forms.specs.Under.machine.State.{State}
use Rattle.resin_meaning_forms.specs.Under.meaning.Programs.{Whole}
use Rattle.resin_meaning_forms.specs.Under.meaning_tables.Under.sql.Labels.{labelled}
use Rattle.resin_meaning_forms.specs.Under.meaning_tables.Under.sql_words.declared.literals.Literal.{Literal}
use Rattle.resin_meaning_forms.specs.Under.meaning_tables.Under.sql_words.declared.literals.Literal.TheVariants as literal
use Rattle.resin_statement_laws.specs.Effects.{plain_values}

-- a text whose bytes carry sets, or an integer that carries one, with a shadow text of the second version; or NULL
abbrev pub IsKept : LabelledCell → Type 0
IsKept (Text d Second) = ⊤
IsKept (Text d First) = ⊥
IsKept (Integer n set Second) = ⊤
IsKept (Integer n set First) = ⊥
IsKept Null = ⊤
IsKept (Damaged held) = ⊥

-- the sets that its shadow text tells: those of the bytes, and of an integer that of one byte
abbrev pub sets_of : LabelledCell → Marks
sets_of (Text d version) = marks d
sets_of (Integer n set version) = set ∷ []
sets_of Null = []
sets_of (Damaged held) = []

-- these are sets of policy texts, and the shadow text has as many bytes as a number of 64 bits counts
abbrev pub IsLawful : LabelledCell → Type 0
IsLawful c = AreMarks (sets_of c) × (length (written2 (sets_of c)) < 2 ^ 64)

abbrev pub AreLawful : List LabelledCell → Type 0
AreLawful [] = ⊤
AreLawful (c ∷ cells) = IsLawful c × AreLawful cells

abbrev pub AreKept : List LabelledCell → Type 0
AreKept [] = ⊤
AreKept (c ∷ cells) = IsKept c × AreKept cells

-- The cell of a literal of this text: each byte of a text has the texts of its own policies, as they are frozen in some state; an integer has
-- those of the one set that its bytes merge to; NULL has none.
abbrev pub IsCellOf : LabelledText → Literal → LabelledCell → Type 0
IsCellOf t literal.Null v = v ≡ Null
IsCellOf t (literal.Integer n span) v =
    (state : State) × (merged : NumberSet) × (set : TextSet) × (frozen_marks state (carrying merged integer_byte) ≡ Some (set ∷ []))
    × (v ≡ Integer n set Second)
IsCellOf t (literal.Text span) v =
    (state : State) × (sets : Marks) × (frozen_marks state (labelled t (literal.Text span)) ≡ Some sets)
    × (v ≡ Text (zip (bytes_of (labelled t (literal.Text span))) sets) Second)

-- those of some literals, one for each
abbrev pub AreCellsOf : LabelledText → List Literal → List LabelledCell → Type 0
AreCellsOf t [] [] = ⊤
AreCellsOf t (x ∷ literals) (v ∷ vs) = IsCellOf t x v × AreCellsOf t literals vs
AreCellsOf t [] (v ∷ vs) = ⊥
AreCellsOf t (x ∷ literals) [] = ⊥

-- what `kept_literals` has of some literals is what is plain of their cells, whatever an evaluation does
abbrev pub KeepsLiterals : Type 0
KeepsLiterals =
    (ev : Evals) (t : LabelledText) (literals : List Literal) (failing : List ℕ) (at : Whole) (held : List StoredCell)
    → (kept_literals ev t literals [] failing at).end ≡ Ok held
    → (vs : List LabelledCell) × (plain_values vs ≡ held) × AreCellsOf t literals vs × AreKept vs
