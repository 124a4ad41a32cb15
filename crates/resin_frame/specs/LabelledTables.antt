-- Tables as rows of cells that carry their policies, in place of columns of values beside columns of shadow texts (this project).
use Rattle.std.specs.Prelude.{◌≡◌, ◌↔◌, ℕ, IsTrue, List, [], ◌∷◌, length, map, slice_get, Option, Some, None, if◌then◌else◌}
use Rattle.std.specs.FinMap.{FinMap}
use Rattle.std.specs.Option.{option_map}
use Rattle.resin_meaning_forms.specs.Under.base.Contents.{byte_order}
use Rattle.resin_meaning_forms.specs.Under.base.TableStore.{TableStore, table_of, have_cells, is_whole}
use Rattle.resin_meaning_forms.specs.Under.base.declared.cell.Cell.{Cell}
use Rattle.resin_meaning_forms.specs.Under.base.declared.cell.Cell.TheVariants as cell
use Rattle.resin_meaning_forms.specs.Under.base.declared.cell.Column.{Column}
use Rattle.resin_meaning_forms.specs.Under.base.declared.cell.Kind.{Kind}
use Rattle.resin_meaning_forms.specs.Under.base.declared.cell.Row.{Row}
use Rattle.resin_meaning_forms.specs.Under.base.declared.cell.Table.{Table}
use Rattle.resin_meaning_forms.specs.Under.base.declared.stored.StoredCell.{StoredCell}
use Rattle.resin_meaning_forms.specs.Under.meaning_tables.Under.rows.Cells.{fits}
use Rattle.resin_meaning_forms.specs.Under.meaning_tables.Under.rows.Columns.{paired, shape, found}
use Rattle.resin_meaning_forms.specs.Under.meaning_tables.Under.rows.Rows.{answered_at}
use Rattle.resin_meaning_forms.specs.Under.meaning_tables.Under.rows.declared.columns.Place.{Place}
use Rattle.resin_meaning_forms.specs.Under.meaning_tables.Under.sql_more.Totals.{is_null}
use Rattle.resin_meaning_forms.specs.Under.store.Cells.{LabelledCell, Text, Integer, Null, Damaged, stored, plain_cell, lift_cell}
use Rattle.resin_meaning_forms.specs.Under.store.Entries.{LabelledEntry, Good, Bad}
use Rattle.resin_meaning_forms.specs.Under.store.Mapped.{mapped}
use Rattle.resin_meaning_forms.specs.Cells.{entry_for}

-- ---- tables with the policies of their cells

-- a row: its number, and a cell for each column
pub record LabelledRow : Type 0 where
  pub number : ℕ
  pub cells : List LabelledCell

-- a table: its columns and its rows; or an odd one, which has not this project's shape, as it is held
pub data LabelledTable : Type 0 where
  Rows : List Column → List LabelledRow → LabelledTable
  Odd : Table → LabelledTable

-- ---- what a keeper holds of them

-- of cells: each value, and its shadow text behind it
abbrev pub plain_cells : List LabelledCell → List Cell
plain_cells [] = []
plain_cells (c ∷ cells) = let held = plain_cell c in held.value ∷ held.shadow ∷ plain_cells cells

abbrev pub plain_row : LabelledRow → Row
plain_row row = record { number = row.number; cells = plain_cells row.cells }

-- of a table: each column, and that of its shadow texts behind it
abbrev pub plain_table : LabelledTable → Table
plain_table (Rows columns rows) = table_of (paired columns) (map plain_row rows)
plain_table (Odd table) = table

-- ---- and as what it is read

-- cells of these columns, each with the policies that the shadow text behind it tells
abbrev pub lift_cells : List Column → List Cell → List LabelledCell
lift_cells (column ∷ columns) (value ∷ shadow ∷ cells) = lift_cell column.kind (stored value shadow) ∷ lift_cells columns cells
lift_cells columns cells = []

abbrev pub lift_row : List Column → Row → LabelledRow
lift_row columns row = record { number = row.number; cells = lift_cells columns row.cells }

abbrev pub lifted_table : Table → Option (List Column) → LabelledTable
lifted_table table (Some columns) = Rows columns (map (lift_row columns) table.rows)
lifted_table table None = Odd table

-- a table whose columns are pairs of this project's shape, with a cell for each in each row; any other is odd
abbrev pub lift_table : Table → LabelledTable
lift_table table = if have_cells table.columns table.rows then lifted_table table (shape table.columns) else Odd table

-- all tables, by their names
abbrev pub LabelledTables : Type 0
LabelledTables = FinMap byte_order LabelledTable

abbrev pub lift_tables : TableStore → LabelledTables
lift_tables s = mapped lift_table s

abbrev pub plain_tables : LabelledTables → TableStore
plain_tables s = mapped plain_table s

-- ---- laws

-- a keeper holds of a lifted table what it held
abbrev pub KeepsTables : Type 0
KeepsTables = (table : Table) → plain_table (lift_table table) ≡ table

-- the same of all tables
abbrev pub KeepsTableStores : Type 0
KeepsTableStores = (s : TableStore) → plain_tables (lift_tables s) ≡ s

-- of the whole tables that keepers hold, exactly those are odd that a statement finds absent: their columns aren't of this project's shape
abbrev pub LiftsOdd : Type 0
LiftsOdd = (table : Table) → IsTrue (is_whole table) → (lift_table table ≡ Odd table) ↔ (shape table.columns ≡ None)

-- the entry that a read takes a stored cell for, none where it is NULL
abbrev pub entry_read : StoredCell → Option LabelledEntry
entry_read c = if is_null c then None else Some (entry_for c.value c.shadow)

-- a damaged entry, of what stands there: the bytes of a text, or the byte that stands for an integer, beside their shadow text
abbrev pub damaged : Cell → Cell → LabelledEntry
damaged (cell.Text bytes) (cell.Text shadow) = Bad bytes shadow
damaged (cell.Int n) (cell.Text shadow) = Bad (0 ∷ []) shadow
damaged (cell.Text bytes) shadow = Bad bytes []
damaged value shadow = Bad [] []

-- The entry of a cell in a column of this kind: a text is one of its bytes, an integer one of the byte that stands for it, each with its
-- sets; NULL is none. A damaged cell is a damaged one; where it is of another kind than its column's, nothing of it is told.
abbrev pub entry_in : Kind → LabelledCell → Option LabelledEntry
entry_in kind (Text d version) = Some (Good d version)
entry_in kind (Integer n set version) = Some (Good ((0, set) ∷ []) version)
entry_in kind Null = None
entry_in kind (Damaged held) = Some (if fits kind held.value then damaged held.value held.shadow else Bad [] [])

-- what is answered of a column in a row is read as the entry of the labelled cell that stands there
abbrev pub ReadsCells : Type 0
ReadsCells =
    (columns : List Column) (row : Row) (name : List ℕ) (place : Place)
    → length row.cells ≡ length (paired columns) → found columns name ≡ Some place
    → option_map (entry_in place.kind) (slice_get (lift_row columns row).cells place.at) ≡ Some (entry_read (answered_at row.cells (Some place)))
