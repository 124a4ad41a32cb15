-- What statements do to tables whose cells carry their policies (SQLite's statements in outline, as resin_plan has them; the rest is this
-- project's). A row is chosen, and stands in its order, by the values of its cells alone; what is put into a cell, and what is answered of one,
-- is the cell with its policies.
use Rattle.std.specs.Prelude.{ℕ, ◌-◌, nat_le, Bool, List, [], ◌∷◌, length, map}
use Rattle.std.specs.Prelude.{filter, take, drop, slice_get, Option, Some, None, Result, Ok, Err, if◌then◌else◌}
use Rattle.std.specs.FinMap.{get, contains_key}
use Rattle.std.specs.Option.{option_map_or}
use Rattle.std.specs.Str.{bytes_eq}
use Rattle.resin_base.specs.TableStore.{largest_number, last_row_number}
use Rattle.resin_base.specs.declared.cell.Cell.TheVariants as cell
use Rattle.resin_base.specs.declared.cell.Column.{Column}
use Rattle.resin_base.specs.declared.cell.Kind.{Kind}
use Rattle.resin_base.specs.declared.stored.StoredCell.{StoredCell}
use Rattle.resin_store.specs.Cells.{LabelledCell, Null, Damaged, stored, plain_cell}
use Rattle.resin_meaning_forms.specs.Under.meaning_tables.Under.sql.declared.fault.SqlRefusal.{SqlRefusal}
use Rattle.resin_meaning_forms.specs.Under.meaning_tables.Under.sql.declared.fault.SqlRefusal.TheVariants.{TableExists, NoTable}
use Rattle.resin_meaning_forms.specs.Under.meaning_tables.Under.sql.declared.fault.SqlRefusal.TheVariants.{DuplicateColumn, Full}
use Rattle.resin_meaning_forms.specs.Under.meaning_tables.Under.sql.declared.tree.Condition.{Condition}
use Rattle.resin_meaning_forms.specs.Under.meaning_tables.Under.sql.declared.tree.Create.{Create}
use Rattle.resin_meaning_forms.specs.Under.meaning_tables.Under.sql.declared.tree.Delete.{Delete}
use Rattle.resin_meaning_forms.specs.Under.meaning_tables.Under.sql.declared.tree.Insert.{Insert}
use Rattle.resin_meaning_forms.specs.Under.meaning_tables.Under.sql.declared.tree.Order.{Order}
use Rattle.resin_meaning_forms.specs.Under.meaning_tables.Under.sql.declared.tree.Select.{Select}
use Rattle.resin_meaning_forms.specs.Under.meaning_tables.Under.sql.declared.tree.Stmt.{Stmt}
use Rattle.resin_meaning_forms.specs.Under.meaning_tables.Under.sql.declared.tree.Stmt.TheVariants as statement
use Rattle.resin_meaning_forms.specs.Under.meaning_tables.Under.sql.declared.tree.Update.{Update}
use Rattle.resin_meaning_forms.specs.Under.meaning_tables.Under.rows.Cells.{fits}
use Rattle.resin_meaning_forms.specs.Under.meaning_tables.Under.rows.Columns.{names_of, is_repeated, first_named, found}
use Rattle.resin_meaning_forms.specs.Under.meaning_tables.Under.rows.Conditions.{where_holds, where_cause}
use Rattle.resin_meaning_forms.specs.Under.meaning_tables.Under.rows.Rows.{comes_before, in_order, limited}
use Rattle.resin_meaning_forms.specs.Under.meaning_tables.Under.rows.declared.columns.Place.{Place}
use Rattle.resin_meaning_forms.specs.Under.meaning_tables.Under.plan.Statements.{named, insert_cause, select_cause, changed_names, update_cause}
use Rattle.resin_meaning_forms.specs.Under.meaning_tables.Under.plan.declared.answer.SqlAnswer.{SqlAnswer}
use Rattle.resin_meaning_forms.specs.Under.meaning_tables.Under.plan.declared.answer.SqlResult.{SqlResult}
use Rattle.resin_meaning_forms.specs.Under.meaning_tables.Under.plan.declared.answer.SqlResult.TheVariants as result
use Rattle.resin_frame.specs.LabelledTables.{LabelledRow, LabelledTable, Rows, Odd, LabelledTables, plain_cells, plain_row}
use Rattle.resin_statement_laws.specs.Calls.{made, put_last, set_cells, taken_out}

-- ---- steps

-- one change: a table is made; a row is put last; the cells of a row are set; a row is taken out
pub data Step : Type 0 where
  MakesTable : List ℕ → List Column → Step
  PutsRow : List ℕ → List LabelledCell → Step
  SetsRow : List ℕ → ℕ → List LabelledCell → Step
  TakesRow : List ℕ → ℕ → Step

-- what it leaves: it is the call of Calls.antt
abbrev pub stepped : LabelledTables → Step → LabelledTables
stepped s (MakesTable name columns) = made s name columns
stepped s (PutsRow name cells) = put_last s name cells
stepped s (SetsRow name number cells) = set_cells s name number cells
stepped s (TakesRow name number) = taken_out s name number

-- one after another
abbrev pub all_stepped : LabelledTables → List Step → LabelledTables
all_stepped s [] = s
all_stepped s (step ∷ steps) = all_stepped (stepped s step) steps

-- ---- effects

-- the steps that are taken, and what they come to
pub record Effect (A : Type 0) : Type 0 where
  pub steps : List Step
  pub end : A

-- an answer: how many rows were made, changed or taken out, or names of columns, and rows with a cell for each of them; and how many rows were
-- looked at
pub data LabelledResult : Type 0 where
  Counts : ℕ → LabelledResult
  Tells : List (List ℕ) → List (List LabelledCell) → LabelledResult

pub record LabelledAnswer : Type 0 where
  pub scanned : ℕ
  pub result : LabelledResult

-- a statement's: it has an answer, or is refused
abbrev pub LabelledEnd : Type 0
LabelledEnd = Result LabelledAnswer SqlRefusal

-- the values of cells, each beside its shadow text
abbrev pub plain_values : List LabelledCell → List StoredCell
plain_values vs = map plain_cell vs

-- what the runtime answers
abbrev pub plain_result : LabelledResult → SqlResult
plain_result (Counts n) = result.Count n
plain_result (Tells names rows) = result.Rows names (map plain_values rows)

abbrev pub plain_answer : LabelledAnswer → SqlAnswer
plain_answer answer = record { scanned = answer.scanned; result = plain_result answer.result }

abbrev pub plain_end : LabelledEnd → Result SqlAnswer SqlRefusal
plain_end (Ok answer) = Ok (plain_answer answer)
plain_end (Err x) = Err x

-- nothing is changed
abbrev pub unchanged : {A : Type 0} → A → Effect A
unchanged end = record { steps = []; end = end }

abbrev pub refused : {A : Type 0} → SqlRefusal → Effect (Result A SqlRefusal)
refused x = unchanged (Err x)

-- refused, where there is a cause
abbrev pub unless : {A : Type 0} → Option SqlRefusal → Effect (Result A SqlRefusal) → Effect (Result A SqlRefusal)
unless None rest = rest
unless (Some x) rest = refused x

-- so many rows were changed, of so many that were looked at
abbrev pub counted : ℕ → ℕ → LabelledEnd
counted scanned n = Ok (record { scanned = scanned; result = Counts n })

-- by the columns and the rows of the table; an odd one is as one that isn't there
abbrev pub on_rows :
    {A : Type 0} → (List Column → List LabelledRow → Effect (Result A SqlRefusal)) → Option LabelledTable → Effect (Result A SqlRefusal)
on_rows rest None = refused NoTable
on_rows rest (Some (Rows columns rows)) = rest columns rows
on_rows rest (Some (Odd table)) = refused NoTable

-- ---- cells

-- the cell that is given for a column: the one beside its name
abbrev pub cell_given : List (List ℕ) → List LabelledCell → List ℕ → Option LabelledCell
cell_given (n ∷ names) (c ∷ cells) name = if bytes_eq n name then Some c else cell_given names cells name
cell_given names cells name = None

abbrev pub cell_or : Option LabelledCell → LabelledCell → LabelledCell
cell_or None old = old
cell_or (Some c) old = c

-- a row's cells, with those that are given for these columns in place of theirs: every other cell stays, with its policies
abbrev pub cells_with : List Column → List (List ℕ) → List LabelledCell → List LabelledCell → List LabelledCell
cells_with (column ∷ columns) names vs (old ∷ cells) = cell_or (cell_given names vs column.name) old ∷ cells_with columns names vs cells
cells_with columns names vs cells = []

-- a damaged cell of which nothing is told
abbrev pub nothing_told : LabelledCell
nothing_told = Damaged (stored cell.Null cell.Null)

-- a cell as it is answered; of one that is of another kind than its column's nothing is told
abbrev pub told_in : Kind → LabelledCell → LabelledCell
told_in kind c = if fits kind (plain_cell c).value then c else nothing_told

-- the cell of a column in a row
abbrev pub cell_told : List LabelledCell → Option Place → LabelledCell
cell_told cells None = nothing_told
cell_told cells (Some p) = option_map_or (told_in p.kind) (slice_get cells p.at) nothing_told

-- those of these columns
abbrev pub cells_told : List Column → List (List ℕ) → List LabelledCell → List LabelledCell
cells_told columns names cells = map (λ n. cell_told cells (found columns n)) names

-- ---- rows

-- a row meets a condition, or not, by the values of its cells
abbrev pub is_chosen : List Column → Option Condition → List LabelledCell → LabelledRow → Bool
is_chosen columns condition vs row = where_holds columns condition (plain_values vs) (plain_cells row.cells)

abbrev pub rows_chosen : List Column → Option Condition → List LabelledCell → List LabelledRow → List LabelledRow
rows_chosen columns condition vs rows = filter (is_chosen columns condition vs) rows

-- a row comes before another by the values of a column
abbrev pub row_before : Place → Bool → LabelledRow → LabelledRow → Bool
row_before p descending a b = comes_before p descending (plain_cells a.cells) (plain_cells b.cells)

abbrev pub rows_by : Bool → Option Place → List LabelledRow → List LabelledRow
rows_by descending None rows = rows
rows_by descending (Some p) rows = in_order (row_before p descending) rows

-- by ORDER BY, if it stands
abbrev pub rows_ordered : List Column → Option Order → List LabelledRow → List LabelledRow
rows_ordered columns None rows = rows
rows_ordered columns (Some order) rows = rows_by order.descending (found columns order.column) rows

-- ---- CREATE: the table is made, unless one of that name is there

unfoldable pub created : Create → LabelledTables → Effect LabelledEnd
created c s =
    if is_repeated (names_of c.columns) then refused DuplicateColumn else
    if contains_key s c.table then refused TableExists else record { steps = MakesTable c.table c.columns ∷ []; end = counted 0 0 }

-- ---- INSERT: the rows are put last, one by one, as long as a number is left

-- a row of NULLs, which carry nothing
abbrev pub nulls : List Column → List LabelledCell
nulls columns = map (λ (column : Column). Null) columns

-- the rows, whose cells are the statement's values in their order; columns that aren't named are NULL
abbrev pub rows_given : {A : Type 0} → List Column → List (List ℕ) → List (List A) → List LabelledCell → List (List LabelledCell)
rows_given columns names [] vs = []
rows_given columns names (row ∷ rows) vs =
    cells_with columns names (take (length row) vs) (nulls columns) ∷ rows_given columns names rows (drop (length row) vs)

-- how many numbers are left for rows behind these
abbrev pub numbers_left : List LabelledRow → ℕ
numbers_left rows = last_row_number - largest_number (map plain_row rows)

-- as many of the rows as there are numbers left; where these are too few, the statement is refused behind them
abbrev pub rows_put : List ℕ → List (List LabelledCell) → ℕ → Effect LabelledEnd
rows_put name given left = record {
  steps = map (PutsRow name) (take left given);
  end = if nat_le (length given) left then counted 0 (length given) else Err Full;
}

unfoldable pub inserted_into : Insert → List LabelledCell → List Column → List LabelledRow → Effect LabelledEnd
inserted_into i vs columns rows =
    let names = named i.columns columns in
    unless (insert_cause i (plain_values vs) columns names) (rows_put i.table (rows_given columns names i.rows vs) (numbers_left rows))

abbrev pub inserted : Insert → List LabelledCell → LabelledTables → Effect LabelledEnd
inserted i vs s = on_rows (inserted_into i vs) (get s i.table)

-- ---- SELECT: the cells of the chosen rows, in order, and no more than the limit

abbrev pub selected_rows : Select → List LabelledCell → List Column → List LabelledRow → List LabelledRow
selected_rows q vs columns rows = limited q.limit (rows_ordered columns q.order (rows_chosen columns q.condition vs rows))

-- A column that is named twice is answered once.
unfoldable pub selected_of : Select → List LabelledCell → List Column → List LabelledRow → Effect LabelledEnd
selected_of q vs columns rows =
    let names = named q.columns columns in
    unless (select_cause q (plain_values vs) columns names)
    (unchanged (Ok (record {
      scanned = length rows;
      result =
          Tells (first_named names) (map (λ (row : LabelledRow). cells_told columns (first_named names) row.cells) (selected_rows q vs columns rows));
    })))

abbrev pub selected : Select → List LabelledCell → LabelledTables → Effect LabelledEnd
selected q vs s = on_rows (selected_of q vs) (get s q.table)

-- ---- UPDATE: of each chosen row the named columns have the statement's values, which stand before those of the condition

abbrev pub row_set : Update → List LabelledCell → List Column → LabelledRow → Step
row_set u vs columns row = SetsRow u.table row.number (cells_with columns (changed_names u) (take (length u.changes) vs) row.cells)

unfoldable pub updated_in : Update → List LabelledCell → List Column → List LabelledRow → Effect LabelledEnd
updated_in u vs columns rows =
    let chosen = rows_chosen columns u.condition (drop (length u.changes) vs) rows in
    unless (update_cause u (plain_values vs) columns (changed_names u))
    (record { steps = map (row_set u vs columns) chosen; end = counted (length rows) (length chosen) })

abbrev pub updated : Update → List LabelledCell → LabelledTables → Effect LabelledEnd
updated u vs s = on_rows (updated_in u vs) (get s u.table)

-- ---- DELETE: the chosen rows are taken out

abbrev pub row_taken : Delete → LabelledRow → Step
row_taken d row = TakesRow d.table row.number

unfoldable pub deleted_in : Delete → List LabelledCell → List Column → List LabelledRow → Effect LabelledEnd
deleted_in d vs columns rows =
    let chosen = rows_chosen columns d.condition vs rows in
    unless (where_cause columns d.condition (plain_values vs))
    (record { steps = map (row_taken d) chosen; end = counted (length rows) (length chosen) })

abbrev pub deleted : Delete → List LabelledCell → LabelledTables → Effect LabelledEnd
deleted d vs s = on_rows (deleted_in d vs) (get s d.table)

-- ---- the effect of a statement, whose literals are these cells, in their order

unfoldable pub effect : Stmt → List LabelledCell → LabelledTables → Effect LabelledEnd
effect (statement.Create c) vs s = created c s
effect (statement.Insert i) vs s = inserted i vs s
effect (statement.Select q) vs s = selected q vs s
effect (statement.Update u) vs s = updated u vs s
effect (statement.Delete d) vs s = deleted d vs s
