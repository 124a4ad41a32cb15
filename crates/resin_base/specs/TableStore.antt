-- What a keeper of tables holds: a map from name to columns and rows (this project).
use Rattle.std.specs.Prelude.{◌≡◌, ℕ, ◌+◌, ◌-◌, ◌^◌, ◌==◌, ◌&&◌, max, not, nat_lt, nat_le, Bool, true, false}
use Rattle.std.specs.Prelude.{List, [], ◌∷◌, ◌++◌, length, map, filter, Option, Some, None, Result, IfOk, MatchResult, IsTrue, ⊤, if◌then◌else◌}
use Rattle.std.specs.List.{list_any, list_all}
use Rattle.std.specs.Option.{option_map, option_map_or, ForSome}
use Rattle.std.specs.FinMap.{FinMap, get, insert, contains_key}
use Rattle.resin_base.specs.Contents.{byte_order}
use Rattle.resin_base.specs.declared.faults.KeepFault.{KeepFault}
use Rattle.resin_base.specs.declared.cell.Column.{Column}
use Rattle.resin_base.specs.declared.cell.Cell.{Cell}
use Rattle.resin_base.specs.declared.cell.Row.{Row}
pub use Rattle.resin_base.specs.declared.cell.Table.{Table}

-- a map from name to table
abbrev pub TableStore : Type 0
TableStore = FinMap byte_order Table

-- the numbers of the rows rise, from at least the given one on
abbrev pub rise_from : ℕ → List Row → Bool
rise_from least [] = true
rise_from least (row ∷ rows) = nat_le least row.number && rise_from (row.number + 1) rows

-- each row has as many cells as there are columns
abbrev pub have_cells : List Column → List Row → Bool
have_cells columns rows = list_all (λ (row : Row). length row.cells == length columns) rows

-- rows rise in number, and each has as many cells as the table has columns
abbrev pub is_whole : Table → Bool
is_whole table = rise_from 0 table.rows && have_cells table.columns table.rows

-- each table is whole
abbrev pub EachWhole : TableStore → Type 0
EachWhole s = (name : List ℕ) → ForSome (get s name) (λ (table : Table). IsTrue (is_whole table))

-- where tables are told, each is whole
abbrev pub AreWhole : Option TableStore → Type 0
AreWhole None = ⊤
AreWhole (Some s) = EachWhole s

-- the table of these columns and rows
abbrev pub table_of : List Column → List Row → Table
table_of columns rows = record { columns = columns; rows = rows }

-- the columns of a table, if it is there
abbrev pub columns_of : TableStore → List ℕ → Option (List Column)
columns_of s name = option_map (λ (table : Table). table.columns) (get s name)

-- the rows of a table; one that isn't there has none
abbrev pub rows_of : TableStore → List ℕ → List Row
rows_of s name = option_map_or (λ (table : Table). table.rows) (get s name) []

-- the store with other rows in a table that is there
abbrev pub with_rows : TableStore → List ℕ → (List Row → List Row) → TableStore
with_rows s name change =
    option_map_or (λ (table : Table). insert s name (table_of table.columns (change table.rows))) (get s name) s

-- the cells are as many as the columns of a table that is there
abbrev pub fits : TableStore → List ℕ → List Cell → Bool
fits s name cells = option_map_or (λ (columns : List Column). length cells == length columns) (columns_of s name) false

-- some row has that number
abbrev pub has_number : List Row → ℕ → Bool
has_number rows number = list_any (λ (row : Row). row.number == number) rows

-- a table that is there has a row of that number
abbrev pub has_row : TableStore → List ℕ → ℕ → Bool
has_row s name number = has_number (rows_of s name) number

-- the largest number of a row, 0 where there is none
abbrev pub largest_number : List Row → ℕ
largest_number [] = 0
largest_number (row ∷ rows) = max row.number (largest_number rows)

-- the largest number that `insert` gives a row
abbrev pub last_row_number : ℕ
last_row_number = 2 ^ 63 - 1

-- the number of the next row of a table: one more than the largest held; none where the table isn't there, the cells don't fit it or no
-- number is left
abbrev pub next_number : TableStore → List ℕ → List Cell → Option ℕ
next_number s name cells =
    if fits s name cells && nat_lt (largest_number (rows_of s name)) last_row_number
    then Some (largest_number (rows_of s name) + 1) else None

-- the store after `create`, which changes no table that is there
abbrev pub after_create : TableStore → List ℕ → List Column → TableStore
after_create s name columns = if contains_key s name then s else insert s name (table_of columns [])

-- the store after `insert`, which puts the row last
abbrev pub after_insert : TableStore → List ℕ → List Cell → TableStore
after_insert s name cells =
    option_map_or (λ (number : ℕ). with_rows s name (λ rows. rows ++ record { number = number; cells = cells } ∷ [])) (next_number s name cells) s

-- what `update` answers: the row is there, and the cells fit
abbrev pub can_update : TableStore → List ℕ → ℕ → List Cell → Bool
can_update s name number cells = fits s name cells && has_row s name number

-- the row with other cells, if it has that number
abbrev pub with_cells : ℕ → List Cell → Row → Row
with_cells number cells row = if row.number == number then record { number = row.number; cells = cells } else row

-- the store after `update`
abbrev pub after_update : TableStore → List ℕ → ℕ → List Cell → TableStore
after_update s name number cells = if can_update s name number cells then with_rows s name (map (with_cells number cells)) else s

-- the rows of other numbers
abbrev pub without_number : ℕ → List Row → List Row
without_number number rows = filter (λ (row : Row). not (row.number == number)) rows

-- the store after `delete`
abbrev pub after_delete : TableStore → List ℕ → ℕ → TableStore
after_delete s name number =
    if has_row s name number then with_rows s name (without_number number) else s

-- the table is there with these columns and no row, if none was there; the answer is whether it was made
abbrev pub Creates : TableStore → List ℕ → List Column → Result Bool KeepFault → TableStore → Type 0
Creates s name columns r t =
    MatchResult r (λ made. (made ≡ not (contains_key s name)) × (t ≡ after_create s name columns)) (λ _. t ≡ s)

-- the answer is the table's columns, none exactly where it isn't there, and nothing changes
abbrev pub ShowsColumns : TableStore → List ℕ → Result (Option (List Column)) KeepFault → TableStore → Type 0
ShowsColumns s name r t = (t ≡ s) × IfOk r (λ found. found ≡ columns_of s name)

-- the answer is the table's rows, and nothing changes
abbrev pub ShowsRows : TableStore → List ℕ → Result (List Row) KeepFault → TableStore → Type 0
ShowsRows s name r t = (t ≡ s) × IfOk r (λ rows. rows ≡ rows_of s name)

-- a row is put last, and the answer is its number
abbrev pub Inserts : TableStore → List ℕ → List Cell → Result (Option ℕ) KeepFault → TableStore → Type 0
Inserts s name cells r t =
    MatchResult r (λ number. (number ≡ next_number s name cells) × (t ≡ after_insert s name cells)) (λ _. t ≡ s)

-- the row has these cells, if it was there and they fit, and that is the answer
abbrev pub Updates : TableStore → List ℕ → ℕ → List Cell → Result Bool KeepFault → TableStore → Type 0
Updates s name number cells r t =
    MatchResult r (λ was. (was ≡ can_update s name number cells) × (t ≡ after_update s name number cells)) (λ _. t ≡ s)

-- the row is gone, and the answer is whether it was there
abbrev pub Deletes : TableStore → List ℕ → ℕ → Result Bool KeepFault → TableStore → Type 0
Deletes s name number r t =
    MatchResult r (λ was. (was ≡ has_row s name number) × (t ≡ after_delete s name number)) (λ _. t ≡ s)
