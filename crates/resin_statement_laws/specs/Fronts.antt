-- What stands in the tables after the first steps of a statement, and where its cells come from.
use Rattle.std.specs.Prelude.{◌≡◌, ℕ, zero, suc, ◌+◌, List, [], ◌∷◌, ◌++◌, length, map, take, drop, Option, Some, None, if◌then◌else◌, ◌⊎◌, ⊤}
use Rattle.std.specs.Prelude.{Bool}
use Rattle.std.specs.FinMap.{get}
use Rattle.resin_base.specs.TableStore.{TableStore, EachWhole, largest_number}
use Rattle.resin_base.specs.declared.cell.Column.{Column}
use Rattle.resin_base.specs.declared.cell.Table.{Table}
use Rattle.resin_store.specs.Cells.{LabelledCell, Null}
use Rattle.resin_meaning_forms.specs.Under.meaning_tables.Under.sql.declared.fault.SqlRefusal.{SqlRefusal}
use Rattle.resin_meaning_forms.specs.Under.meaning_tables.Under.sql.declared.tree.Stmt.{Stmt}
use Rattle.resin_meaning_forms.specs.Under.meaning_tables.Under.sql.declared.tree.Stmt.TheVariants as statement
use Rattle.resin_meaning_forms.specs.Under.meaning_tables.Under.sql.declared.tree.Update.{Update}
use Rattle.resin_meaning_forms.specs.Under.meaning_tables.Under.rows.Columns.{names_of, is_repeated}
use Rattle.resin_meaning_forms.specs.Under.meaning_tables.Under.rows.Conditions.{where_cause}
use Rattle.resin_meaning_forms.specs.Under.meaning_tables.Under.plan.Statements.{named, insert_cause, changed_names, update_cause}
use Rattle.resin_frame.specs.LabelledTables.{LabelledRow, LabelledTable, Rows, Odd, LabelledTables, plain_row, lift_tables}
use Rattle.resin_statement_laws.specs.Calls.{rows_shown, row_of, new_table}
use Rattle.resin_statement_laws.specs.Effects.{all_stepped, plain_values, cells_with, is_chosen, rows_given, numbers_left, effect}

-- ---- rows

-- the first so many of the rows of which a test holds are changed; every other row stays, and all in their order
abbrev pub first_changed : ℕ → (LabelledRow → Bool) → (LabelledRow → LabelledRow) → List LabelledRow → List LabelledRow
first_changed zero test change rows = rows
first_changed (suc k) test change [] = []
first_changed (suc k) test change (row ∷ rows) =
    if test row then change row ∷ first_changed k test change rows else row ∷ first_changed (suc k) test change rows

-- the first so many of them are gone; every other row stays, and all in their order
abbrev pub first_gone : ℕ → (LabelledRow → Bool) → List LabelledRow → List LabelledRow
first_gone zero test rows = rows
first_gone (suc k) test [] = []
first_gone (suc k) test (row ∷ rows) = if test row then first_gone k test rows else row ∷ first_gone (suc k) test rows

-- rows of these cells, whose numbers follow this one
abbrev pub numbered_after : ℕ → List (List LabelledCell) → List LabelledRow
numbered_after number [] = []
numbered_after number (cells ∷ rows) = row_of (number + 1) cells ∷ numbered_after (number + 1) rows

-- the row, whose named columns have the statement's values
abbrev pub row_changed : Update → List LabelledCell → List Column → LabelledRow → LabelledRow
row_changed u vs columns row = row_of row.number (cells_with columns (changed_names u) (take (length u.changes) vs) row.cells)

-- the rows as they were, where there is a cause to refuse the statement
abbrev pub unless_refused : Option SqlRefusal → List LabelledRow → List LabelledRow → List LabelledRow
unless_refused None rows now = now
unless_refused (Some x) rows now = rows

-- what the first so many steps of a statement leave of the rows of its table
abbrev pub rows_after : Stmt → List LabelledCell → ℕ → List Column → List LabelledRow → List LabelledRow
rows_after (statement.Create c) vs k columns rows = rows
rows_after (statement.Insert i) vs k columns rows =
    let names = named i.columns columns in
    unless_refused (insert_cause i (plain_values vs) columns names) rows
    (rows ++ numbered_after (largest_number (map plain_row rows)) (take k (take (numbers_left rows) (rows_given columns names i.rows vs))))
rows_after (statement.Select q) vs k columns rows = rows
rows_after (statement.Update u) vs k columns rows =
    unless_refused (update_cause u (plain_values vs) columns (changed_names u)) rows
    (first_changed k (is_chosen columns u.condition (drop (length u.changes) vs)) (row_changed u vs columns) rows)
rows_after (statement.Delete d) vs k columns rows =
    unless_refused (where_cause columns d.condition (plain_values vs)) rows (first_gone k (is_chosen columns d.condition vs) rows)

-- ---- tables

-- the table that it works on
abbrev pub table_named : Stmt → List ℕ
table_named (statement.Create c) = c.table
table_named (statement.Insert i) = i.table
table_named (statement.Select q) = q.table
table_named (statement.Update u) = u.table
table_named (statement.Delete d) = d.table

-- what stands there after so many steps where none was: CREATE makes it, unless it names a column twice
abbrev pub table_after : Stmt → ℕ → Option LabelledTable
table_after (statement.Create c) (suc k) = if is_repeated (names_of c.columns) then None else Some (new_table c.columns)
table_after statement k = None

-- What so many steps of a statement leave: every table of another name as it was, and an odd one; of its own table the rows that are said above; and
-- where no table was, none or the one that is made.
pub record Leaves (statement : Stmt) (vs : List LabelledCell) (k : ℕ) (before now : LabelledTables) : Type 0 where
  pub others : (other : List ℕ) → (other ≡ table_named statement → ⊥) → get now other ≡ get before other
  pub rows :
      (columns : List Column) (rows : List LabelledRow) → get before (table_named statement) ≡ Some (Rows columns rows)
      → get now (table_named statement) ≡ Some (Rows columns (rows_after statement vs k columns rows))
  pub odd : (table : Table) → get before (table_named statement) ≡ Some (Odd table) → get now (table_named statement) ≡ Some (Odd table)
  pub none : get before (table_named statement) ≡ None → get now (table_named statement) ≡ table_after statement k

-- the tables after the first so many steps of a statement
abbrev pub tables_after : Stmt → List LabelledCell → ℕ → TableStore → LabelledTables
tables_after statement vs k s = all_stepped (lift_tables s) (take k (effect statement vs (lift_tables s)).steps)

abbrev pub FrontsLeave : Type 0
FrontsLeave =
    (statement : Stmt) (vs : List LabelledCell) (s : TableStore) → EachWhole s → (k : ℕ)
    → Leaves statement vs k (lift_tables s) (tables_after statement vs k s)

-- ---- where cells come from

abbrev pub IsOneOf : {A : Type 0} → A → List A → Type 0
IsOneOf x [] = ⊥
IsOneOf x (y ∷ ys) = (y ≡ x) ⊎ IsOneOf x ys

-- each cell is the one that stood in its column before, or one of these values
abbrev pub CellsStem : List LabelledCell → List LabelledCell → List LabelledCell → Type 0
CellsStem vs [] [] = ⊤
CellsStem vs (old ∷ before) (new ∷ now) = ((old ≡ new) ⊎ IsOneOf new vs) × CellsStem vs before now
CellsStem vs [] (new ∷ now) = ⊥
CellsStem vs (old ∷ before) [] = ⊥

-- each is one of these
abbrev pub AllOneOf : List LabelledCell → List LabelledCell → Type 0
AllOneOf vs [] = ⊤
AllOneOf vs (c ∷ cells) = IsOneOf c vs × AllOneOf vs cells

-- A row was there before, under its number, and each of its cells is the one that stood in its column, or one of the values. Or none was there
-- under its number, and each of its cells is one of the values, or NULL, which carries nothing.
abbrev pub RowStems : List LabelledCell → List LabelledRow → LabelledRow → Type 0
RowStems vs before row =
    ((old : LabelledRow) × IsOneOf old before × (old.number ≡ row.number) × CellsStem vs old.cells row.cells)
    ⊎ (((old : LabelledRow) → IsOneOf old before → old.number ≡ row.number → ⊥) × AllOneOf (Null ∷ vs) row.cells)

-- So does each row after the first steps of a statement. A cell that no statement writes keeps its value and its policies.
abbrev pub CellsKeep : Type 0
CellsKeep =
    (statement : Stmt) (vs : List LabelledCell) (s : TableStore) → EachWhole s → (k : ℕ) (name : List ℕ) (row : LabelledRow)
    → IsOneOf row (rows_shown (tables_after statement vs k s) name) → RowStems vs (rows_shown (lift_tables s) name) row
