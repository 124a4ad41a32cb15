-- Keeper calls on labelled tables: each is the call of that name on rows of cells that carry their policies, in place of columns of values beside
-- columns of shadow texts (resin_base says what the calls do to what a keeper holds; this is this project's).
use Rattle.std.specs.Prelude.{◌≡◌, ℕ, ◌==◌, not, Bool, false, List, [], ◌∷◌, ◌++◌, length, map, filter, Option, Some, None, if◌then◌else◌}
use Rattle.std.specs.FinMap.{get, insert, contains_key}
use Rattle.std.specs.Option.{option_map_or, ForSome}
use Rattle.resin_base.specs.TableStore.{TableStore, table_of, EachWhole, columns_of, rows_of, next_number}
use Rattle.resin_base.specs.TableStore.{can_update, has_row, without_number, with_cells}
use Rattle.resin_base.specs.TableStore.{after_create, after_insert, after_update, after_delete}
use Rattle.resin_base.specs.declared.cell.Column.{Column}
use Rattle.resin_base.specs.declared.cell.Row.{Row}
use Rattle.resin_store.specs.Cells.{LabelledCell}
use Rattle.resin_meaning_forms.specs.Under.meaning_tables.Under.rows.Columns.{names_of, is_repeated, paired, shape}
use Rattle.resin_frame.specs.LabelledTables.{LabelledRow, LabelledTable, Rows, Odd, LabelledTables}
use Rattle.resin_frame.specs.LabelledTables.{plain_cells, plain_row, plain_tables, lift_cells, lift_tables}

-- ---- what a call shows

-- the columns of a table that stands there; an odd one shows none
abbrev pub columns_in : Option LabelledTable → Option (List Column)
columns_in None = None
columns_in (Some (Rows columns rows)) = Some columns
columns_in (Some (Odd table)) = None

-- and its rows
abbrev pub rows_in : Option LabelledTable → List LabelledRow
rows_in None = []
rows_in (Some (Rows columns rows)) = rows
rows_in (Some (Odd table)) = []

abbrev pub columns_shown : LabelledTables → List ℕ → Option (List Column)
columns_shown s name = columns_in (get s name)

abbrev pub rows_shown : LabelledTables → List ℕ → List LabelledRow
rows_shown s name = rows_in (get s name)

-- ---- what a call answers: what the keeper's rule says of what the keeper holds

-- the number of a row that is put last
abbrev pub number_given : LabelledTables → List ℕ → List LabelledCell → Option ℕ
number_given s name cells = next_number (plain_tables s) name (plain_cells cells)

-- the row is there, and has so many cells
abbrev pub can_set : LabelledTables → List ℕ → ℕ → List LabelledCell → Bool
can_set s name number cells = can_update (plain_tables s) name number (plain_cells cells)

-- the row is there
abbrev pub can_take : LabelledTables → List ℕ → ℕ → Bool
can_take s name number = has_row (plain_tables s) name number

-- ---- what a call leaves

-- a table with other rows: of labelled cells, or, where it is odd, of those that are held
abbrev pub changed_table : (List LabelledRow → List LabelledRow) → (List Row → List Row) → LabelledTable → LabelledTable
changed_table change held (Rows columns rows) = Rows columns (change rows)
changed_table change held (Odd table) = Odd (table_of table.columns (held table.rows))

-- all tables, where that of this name has other rows, if it is there
abbrev pub with_changed : LabelledTables → List ℕ → (List LabelledRow → List LabelledRow) → (List Row → List Row) → LabelledTables
with_changed s name change held = option_map_or (λ (table : LabelledTable). insert s name (changed_table change held table)) (get s name) s

-- one column or more, and no name stands twice among them and those of their shadow texts
abbrev pub are_apart : List Column → Bool
are_apart [] = false
are_apart (column ∷ columns) = not (is_repeated (names_of (paired (column ∷ columns))))

-- a table of these columns, which has no row
abbrev pub new_table : List Column → LabelledTable
new_table columns = if are_apart columns then Rows columns [] else Odd (table_of (paired columns) [])

-- a table is made, where none was
abbrev pub made : LabelledTables → List ℕ → List Column → LabelledTables
made s name columns = if contains_key s name then s else insert s name (new_table columns)

-- a row of these cells under this number
abbrev pub row_of : ℕ → List LabelledCell → LabelledRow
row_of number cells = record { number = number; cells = cells }

-- all tables, where a row stands behind the others of this one
abbrev pub with_last : LabelledTables → List ℕ → LabelledRow → LabelledTables
with_last s name row = with_changed s name (λ rows. rows ++ row ∷ []) (λ rows. rows ++ plain_row row ∷ [])

-- a row is put last, under the number that it is given
abbrev pub put_last : LabelledTables → List ℕ → List LabelledCell → LabelledTables
put_last s name cells = option_map_or (λ (number : ℕ). with_last s name (row_of number cells)) (number_given s name cells) s

-- the row with other cells, if it has that number
abbrev pub with_labelled : ℕ → List LabelledCell → LabelledRow → LabelledRow
with_labelled number cells row = if row.number == number then row_of row.number cells else row

-- the cells of the row of this number are set
abbrev pub set_cells : LabelledTables → List ℕ → ℕ → List LabelledCell → LabelledTables
set_cells s name number cells =
    if can_set s name number cells
    then with_changed s name (map (with_labelled number cells)) (map (with_cells number (plain_cells cells))) else s

-- the rows of other numbers
abbrev pub others_than : ℕ → List LabelledRow → List LabelledRow
others_than number rows = filter (λ (row : LabelledRow). not (row.number == number)) rows

-- the row of this number is taken out
abbrev pub taken_out : LabelledTables → List ℕ → ℕ → LabelledTables
taken_out s name number = if can_take s name number then with_changed s name (others_than number) (without_number number) else s

-- ---- laws

-- these columns read what a keeper holds of the cells as the cells that they are
abbrev pub AreRead : List Column → List LabelledCell → Type 0
AreRead columns cells = lift_cells columns (plain_cells cells) ≡ cells

-- so do the columns of the table of this name, where it isn't odd and has as many
abbrev pub AreReadAt : LabelledTables → List ℕ → List LabelledCell → Type 0
AreReadAt s name cells = ForSome (columns_shown s name) (λ columns. length cells ≡ length columns → AreRead columns cells)

-- What a keeper holds after a call is, with the policies of its cells, what the labelled call leaves; and of that it holds just this.
pub record Holds (t : TableStore) (after : LabelledTables) : Type 0 where
  pub lifted : lift_tables t ≡ after
  pub held : plain_tables after ≡ t

-- the columns that are shown are those of the pairs that the keeper tells, where these are of this project's shape
abbrev pub ShowsColumns : Type 0
ShowsColumns = (s : TableStore) → EachWhole s → (name : List ℕ) → columns_shown (lift_tables s) name ≡ option_map_or shape (columns_of s name) None

-- and the keeper tells of the rows that are shown what it holds of them
abbrev pub ShowsRows : Type 0
ShowsRows =
    (s : TableStore) (name : List ℕ) (columns : List Column) → columns_shown (lift_tables s) name ≡ Some columns
    → rows_of s name ≡ map plain_row (rows_shown (lift_tables s) name)

abbrev pub Makes : Type 0
Makes =
    (s : TableStore) (name : List ℕ) (columns : List Column)
    → (contains_key s name ≡ contains_key (lift_tables s) name) × Holds (after_create s name (paired columns)) (made (lift_tables s) name columns)

abbrev pub PutsLast : Type 0
PutsLast =
    (s : TableStore) → EachWhole s → (name : List ℕ) (cells : List LabelledCell) → AreReadAt (lift_tables s) name cells
    → (next_number s name (plain_cells cells) ≡ number_given (lift_tables s) name cells)
    × Holds (after_insert s name (plain_cells cells)) (put_last (lift_tables s) name cells)

abbrev pub SetsCells : Type 0
SetsCells =
    (s : TableStore) → EachWhole s → (name : List ℕ) (number : ℕ) (cells : List LabelledCell) → AreReadAt (lift_tables s) name cells
    → (can_update s name number (plain_cells cells) ≡ can_set (lift_tables s) name number cells)
    × Holds (after_update s name number (plain_cells cells)) (set_cells (lift_tables s) name number cells)

abbrev pub TakesOut : Type 0
TakesOut =
    (s : TableStore) → EachWhole s → (name : List ℕ) (number : ℕ)
    → (has_row s name number ≡ can_take (lift_tables s) name number)
    × Holds (after_delete s name number) (taken_out (lift_tables s) name number)
