-- Cells with their policies: a text's bytes each carry a set of policy texts, and an integer carries one (this project).
use Rattle.std.specs.Prelude.{ℕ, ℤ, List, [], ◌∷◌}
use Rattle.resin_base.specs.FileStore.{entry_of}
use Rattle.resin_base.specs.declared.cell.Cell.{Cell}
use Rattle.resin_base.specs.declared.cell.Cell.TheVariants as cell
use Rattle.resin_base.specs.declared.cell.Kind.{Kind}
use Rattle.resin_base.specs.declared.cell.Kind.TheVariants as kind
use Rattle.resin_base.specs.declared.files.Entry.{Entry}
use Rattle.resin_base.specs.declared.stored.StoredCell.{StoredCell}
use Rattle.resin_shadow.specs.Marks.{TextSet, Marks}
use Rattle.resin_store.specs.Entries.{Marked, plain_bytes, marks, Version, written, LabelledEntry, Good, Bad, lift}

-- a cell: a text, an integer with its set, each with the version of its shadow text; NULL; or a damaged one, as it is held
pub data LabelledCell : Type 0 where
  Text : Marked → Version → LabelledCell
  Integer : ℤ → TextSet → Version → LabelledCell
  Null : LabelledCell
  Damaged : StoredCell → LabelledCell

-- a cell beside the cell that holds its shadow text
abbrev pub stored : Cell → Cell → StoredCell
stored value shadow = record { value = value; shadow = shadow }

-- what a keeper holds of a cell; the shadow text of an integer is that of one byte
abbrev pub plain_cell : LabelledCell → StoredCell
plain_cell (Text d v) = stored (cell.Text (plain_bytes d)) (cell.Text (written v (marks d)))
plain_cell (Integer n s v) = stored (cell.Int n) (cell.Text (written v (s ∷ [])))
plain_cell Null = stored cell.Null (cell.Text [])
plain_cell (Damaged c) = c

-- the text of these bytes and this shadow text, by what they are as an entry
abbrev pub lifted_text : List ℕ → List ℕ → LabelledEntry → LabelledCell
lifted_text bytes shadow (Good d v) = Text d v
lifted_text bytes shadow (Bad b x) = Damaged (stored (cell.Text bytes) (cell.Text shadow))

-- the one byte that stands for an integer, beside its shadow text
abbrev pub one_byte : List ℕ → Entry
one_byte shadow = entry_of (0 ∷ []) shadow

-- the integer with the set of the byte that stands for it
abbrev pub integer_with : ℤ → List ℕ → Marks → Version → LabelledCell
integer_with n shadow (s ∷ []) v = Integer n s v
integer_with n shadow w v = Damaged (stored (cell.Int n) (cell.Text shadow))

abbrev pub lifted_integer : ℤ → List ℕ → LabelledEntry → LabelledCell
lifted_integer n shadow (Good d v) = integer_with n shadow (marks d) v
lifted_integer n shadow (Bad b x) = Damaged (stored (cell.Int n) (cell.Text shadow))

-- a cell of a column of this kind as its shadow text tells it; a cell of another kind, or beside what is no shadow text of it, is damaged
abbrev pub lifted_cell : Kind → Cell → Cell → LabelledCell
lifted_cell kind.Text (cell.Text bytes) (cell.Text shadow) = lifted_text bytes shadow (lift (entry_of bytes shadow))
lifted_cell kind.Integer (cell.Int n) (cell.Text shadow) = lifted_integer n shadow (lift (one_byte shadow))
lifted_cell k cell.Null (cell.Text []) = Null
lifted_cell k value shadow = Damaged (stored value shadow)

abbrev pub lift_cell : Kind → StoredCell → LabelledCell
lift_cell k c = lifted_cell k c.value c.shadow
