-- Cells of tables: how the literals of a statement are kept, and what a read makes of a stored cell (RESIN's persistent policies in
-- outline; the rest is this project's own).
use Rattle.std.specs.Prelude.{ℕ, nat_lt, List, [], ◌∷◌, ◌++◌, length, map, codes, if◌then◌else◌}
use Rattle.resin_builtin.specs.Under.label.Sets.{NumberSet, empty as no_labels}
use Rattle.resin_builtin.specs.Under.lstr.declared.limits.TheConstants.{LONGEST}
use Rattle.resin_builtin.specs.Under.lstr.Texts.{Text as LabelledText, bytes_of, carrying}
use Rattle.resin_builtin.specs.Under.scalar.declared.faults.ScriptFault.TheVariants.{BadShadow, TextTooLong}
use Rattle.resin_builtin.specs.Under.value.Changes.{put, empty}
use Rattle.resin_builtin.specs.Under.value.Trees.{Tree, null, integer, text}
use Rattle.resin_builtin.specs.Under.value.declared.key.Key.TheVariants.{Text as TextKey}
use Rattle.resin_builtin.specs.Under.value.declared.value.Value.{Value}
use Rattle.resin_builtin.specs.Under.value.declared.value.Value.TheVariants.{Arr}
use Rattle.resin_target.specs.Under.journal.Channels.{channel_name}
use Rattle.resin_target.specs.Under.journal.declared.channel.Channel.TheVariants.{Sql}
use Rattle.resin_meaning_tables.specs.Under.base.FileStore.{entry_of}
use Rattle.resin_meaning_tables.specs.Under.base.declared.cell.Cell.{Cell}
use Rattle.resin_meaning_tables.specs.Under.base.declared.cell.Cell.TheVariants as cell
use Rattle.resin_meaning_tables.specs.Under.base.declared.stored.StoredCell.{StoredCell}
use Rattle.resin_meaning_tables.specs.Under.store.Cells.{stored, one_byte}
use Rattle.resin_meaning_tables.specs.Under.store.Entries.{LabelledEntry, Good, Bad, lift, marks}
use Rattle.resin_meaning_tables.specs.Under.meaning.Programs.{Prog, give, ◌>>=◌}
use Rattle.resin_shadow.specs.Marks.{Marks}
use Rattle.resin_shadow.specs.Shadows.{written2}
use Rattle.resin_meaning_tables.specs.Under.sql_more.Totals.{is_null}
use Rattle.resin_meaning_tables.specs.Under.sql.Labels.{labelled}
use Rattle.resin_meaning_tables.specs.Under.sql_words.declared.literals.Literal.{Literal}
use Rattle.resin_meaning_tables.specs.Under.sql_words.declared.literals.Literal.TheVariants as l
use Rattle.resin_meaning_forms.specs.Keeping.{freeze_text, thaw_entry, size}
use Rattle.resin_meaning_forms.specs.Merges.{folded}
use Rattle.resin_meaning_forms.specs.Parts.{Evals, faulted}
use Rattle.resin_meaning_forms.specs.Reading.{read_through}
use Rattle.resin_meaning_forms.specs.Writes.{plain}

-- ---- literals: what is kept of them, with their shadow texts

-- the byte that stands for an integer
abbrev pub integer_byte : List ℕ
integer_byte = 0 ∷ []

-- what is kept of the policies of a text, as its shadow text
abbrev pub kept_shadow : LabelledText → Prog (List ℕ)
kept_shadow t = freeze_text t >>= λ w. give (written2 w)

-- An integer carries the one set that its bytes merge to, and is kept as a byte with that set is; a text is kept with the sets of its bytes.
abbrev pub kept_literal : Evals → LabelledText → Literal → Prog StoredCell
kept_literal ev t l.Null = give (stored cell.Null (cell.Text []))
kept_literal ev t (l.Integer n span) = do
  set ← folded ev (labelled t (l.Integer n span))
  shadow ← kept_shadow (carrying set integer_byte)
  give (stored (cell.Int n) (cell.Text shadow))
kept_literal ev t (l.Text span) = do
  shadow ← kept_shadow (labelled t (l.Text span))
  give (stored (cell.Text (bytes_of (labelled t (l.Text span)))) (cell.Text shadow))

-- those of a statement, in their order: each is merged and frozen before the next
abbrev pub kept_literals : Evals → LabelledText → List Literal → List StoredCell → Prog (List StoredCell)
kept_literals ev t [] so_far = give so_far
kept_literals ev t (x ∷ xs) so_far = kept_literal ev t x >>= λ c. kept_literals ev t xs (so_far ++ c ∷ [])

-- ---- reading a cell

-- what the filters of a cell are told: the channel, and the column as the answer names it
abbrev pub cell_context : List ℕ → Value
cell_context column =
    Arr (put (TextKey (codes "column")) (text (plain column)) (put (TextKey (codes "type")) (text (plain (channel_name Sql))) empty))

-- a value with no shadow text beside it is damaged, and so is NULL where it is no stored NULL
abbrev pub damaged_entry : Cell → LabelledEntry
damaged_entry (cell.Text bytes) = Bad bytes []
damaged_entry value = Bad [] []

abbrev pub entry_beside : Cell → List ℕ → LabelledEntry
entry_beside (cell.Text bytes) shadow = lift (entry_of bytes shadow)
entry_beside (cell.Int n) shadow = lift (one_byte shadow)
entry_beside value shadow = damaged_entry value

-- A cell is read as an entry is: a text beside its shadow text, and an integer as the byte that stands for it.
abbrev pub entry_for : Cell → Cell → LabelledEntry
entry_for value (cell.Text shadow) = entry_beside value shadow
entry_for value shadow = damaged_entry value

-- the set of the first byte
abbrev pub first_set : LabelledText → NumberSet
first_set [] = no_labels
first_set (b ∷ t) = b.1

-- a text of a column, behind its filters
abbrev pub read_text : Evals → List ℕ → LabelledText → Prog Tree
read_text ev column t = read_through ev Sql (cell_context column) t >>= λ u. give (text u)

-- an integer with what its byte carries, or a text
abbrev pub read_value : Evals → List ℕ → Cell → LabelledText → Prog Tree
read_value ev column (cell.Int n) t = give (integer n (first_set t))
read_value ev column value t = read_text ev column t

-- what is answered of a stored cell
abbrev pub cell_value : Evals → List ℕ → StoredCell → Prog Tree
cell_value ev column c = if is_null c then give null else (thaw_entry (entry_for c.value c.shadow) >>= read_value ev column c.value)

-- ---- cells that are read together

-- the policy texts of each byte of an entry; TextTooLong comes before its shadow is looked at, then BadShadow where it is damaged
abbrev pub marks_of : LabelledEntry → Prog Marks
marks_of (Good d version) = give (marks d)
marks_of (Bad bytes shadow) = faulted BadShadow

abbrev pub whole_marks : LabelledEntry → Prog Marks
whole_marks e = if nat_lt LONGEST (size e) then faulted TextTooLong else marks_of e

-- those of cells one behind the other, an integer being one byte; all are looked at before anything is made of them
abbrev pub marks_of_cells : List StoredCell → Marks → Prog Marks
marks_of_cells [] so_far = give so_far
marks_of_cells (c ∷ cells) so_far = whole_marks (entry_for c.value c.shadow) >>= λ w. marks_of_cells cells (so_far ++ w)
