-- The programs of Cells are framed.
use Rattle.std.specs.Prelude.{Option}
use Rattle.std.specs.Prelude.{ℕ, nat_lt, List, [], ◌∷◌, ◌++◌, length, map, codes, if◌then◌else◌}
use Rattle.resin_meaning_forms.specs.Under.label.Sets.{NumberSet, empty as no_labels}
use Rattle.resin_meaning_forms.specs.Under.lstr.declared.limits.TheConstants.{LONGEST}
use Rattle.resin_meaning_forms.specs.Under.lstr.Texts.{Text as LabelledText, bytes_of, carrying}
use Rattle.resin_meaning_forms.specs.Under.scalar.declared.faults.ScriptFault.TheVariants.{BadShadow, TextTooLong}
use Rattle.resin_meaning_forms.specs.Under.value.Changes.{put, empty}
use Rattle.resin_meaning_forms.specs.Under.value.Trees.{Tree, null, integer, text}
use Rattle.resin_meaning_forms.specs.Under.value.declared.key.Key.TheVariants.{Text as TextKey}
use Rattle.resin_meaning_forms.specs.Under.value.declared.value.Value.{Value}
use Rattle.resin_meaning_forms.specs.Under.value.declared.value.Value.TheVariants.{Arr}
use Rattle.resin_meaning_forms.specs.Under.journal.Channels.{channel_name}
use Rattle.resin_meaning_forms.specs.Under.journal.declared.channel.Channel.TheVariants.{Sql}
use Rattle.resin_meaning_forms.specs.Under.base.FileStore.{entry_of}
use Rattle.resin_meaning_forms.specs.Under.base.declared.cell.Cell.{Cell}
use Rattle.resin_meaning_forms.specs.Under.base.declared.cell.Cell.TheVariants as cell
use Rattle.resin_meaning_forms.specs.Under.base.declared.stored.StoredCell.{StoredCell}
use Rattle.resin_meaning_forms.specs.Under.store.Cells.{stored, one_byte}
use Rattle.resin_meaning_forms.specs.Under.store.Entries.{LabelledEntry, Good, Bad, lift, marks}
use Rattle.resin_meaning_forms.specs.Under.meaning.Programs.{Prog, give, ◌>>=◌}
use Rattle.resin_shadow.specs.Marks.{Marks}
use Rattle.resin_shadow.specs.Shadows.{written2}
use Rattle.resin_meaning_forms.specs.Under.meaning_tables.Under.sql_more.Totals.{is_null}
use Rattle.resin_meaning_forms.specs.Under.meaning_tables.Under.sql.Labels.{labelled}
use Rattle.resin_meaning_forms.specs.Under.meaning_tables.Under.sql_words.declared.literals.Literal.{Literal}
use Rattle.resin_meaning_forms.specs.Under.meaning_tables.Under.sql_words.declared.literals.Literal.TheVariants as l
use Rattle.resin_meaning_forms.specs.Keeping.{freeze_text, thaw_entry, size}
use Rattle.resin_meaning_forms.specs.Merges.{folded}
use Rattle.resin_meaning_forms.specs.Parts.{Evals, faulted}
use Rattle.resin_meaning_forms.specs.Reading.{read_through}
use Rattle.resin_meaning_forms.specs.Writes.{plain}
use Rattle.resin_meaning_forms.specs.Cells.{integer_byte, kept_shadow, kept_literal, kept_literals, cell_context, damaged_entry, entry_beside, entry_for, first_set, read_text, read_value, cell_value, marks_of, whole_marks, marks_of_cells}
use Rattle.resin_frame.specs.Frames.{IsFramed}
use Rattle.resin_frame.proofs.Frames.{FramedEvals, framing}
use Rattle.resin_frame.proofs.framed_forms.Keeping.{freeze_text_framed, thaw_entry_framed}
use Rattle.resin_frame.proofs.framed_forms.Merges.{folded_framed}
use Rattle.resin_frame.proofs.framed_forms.Reading.{read_through_framed}

pub kept_shadow_framed : {own : Option (List ℕ)} (t : LabelledText) → IsFramed {A = (List ℕ)} own (kept_shadow t)
kept_shadow_framed t = search (framing, freeze_text_framed) depth 12

pub kept_literal_framed : {own : Option (List ℕ)} (ev : Evals) (t : LabelledText) (a2 : Literal) → FramedEvals own ev → IsFramed {A = StoredCell} own (kept_literal ev t a2)
kept_literal_framed ev t l.Null h = search framing depth 12
kept_literal_framed ev t (l.Integer n span) h = search (framing, folded_framed, kept_shadow_framed) depth 12
kept_literal_framed ev t (l.Text span) h = search (framing, kept_shadow_framed) depth 12

pub kept_literals_framed : {own : Option (List ℕ)} (ev : Evals) (t : LabelledText) (a2 : List Literal) (so_far : List StoredCell) → FramedEvals own ev → IsFramed {A = (List StoredCell)} own (kept_literals ev t a2 so_far)
kept_literals_framed ev t [] so_far h = search framing depth 12
kept_literals_framed {own = own} ev t (x ∷ xs) so_far h = let ih = λ (y3 : List StoredCell). kept_literals_framed {own = own} ev t xs y3 h in search (framing, kept_literal_framed, ih) depth 12

pub read_text_framed : {own : Option (List ℕ)} (ev : Evals) (column : List ℕ) (t : LabelledText) → FramedEvals own ev → IsFramed {A = Tree} own (read_text ev column t)
read_text_framed ev column t h = search (framing, read_through_framed) depth 12

pub read_value_framed : {own : Option (List ℕ)} (ev : Evals) (column : List ℕ) (value : Cell) (t : LabelledText) → FramedEvals own ev → IsFramed {A = Tree} own (read_value ev column value t)
read_value_framed ev column (cell.Int n) t h = search framing depth 12
read_value_framed ev column value t h = search (framing, read_text_framed) depth 12

pub cell_value_framed : {own : Option (List ℕ)} (ev : Evals) (column : List ℕ) (c : StoredCell) → FramedEvals own ev → IsFramed {A = Tree} own (cell_value ev column c)
cell_value_framed ev column c h = search (framing, thaw_entry_framed, read_value_framed) depth 12

pub marks_of_framed : {own : Option (List ℕ)} (a0 : LabelledEntry) → IsFramed {A = Marks} own (marks_of a0)
marks_of_framed (Good d version) = search framing depth 12
marks_of_framed (Bad bytes shadow) = search framing depth 12

pub whole_marks_framed : {own : Option (List ℕ)} (e : LabelledEntry) → IsFramed {A = Marks} own (whole_marks e)
whole_marks_framed e = search (framing, marks_of_framed) depth 12

pub marks_of_cells_framed : {own : Option (List ℕ)} (a0 : List StoredCell) (so_far : Marks) → IsFramed {A = Marks} own (marks_of_cells a0 so_far)
marks_of_cells_framed [] so_far = search framing depth 12
marks_of_cells_framed {own = own} (c ∷ cells) so_far = let ih = λ (y1 : Marks). marks_of_cells_framed {own = own} cells y1 in search (framing, whole_marks_framed, ih) depth 12
