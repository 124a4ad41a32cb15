-- Rows: what is written into them, which are chosen, in which order, and what of them is answered.
use Rattle.std.specs.Prelude.{ℕ, ◌+◌, Bool, List, [], ◌∷◌, length, map, take, drop, slice_get, Option, Some, None, if◌then◌else◌}
use Rattle.std.specs.List.{position_from}
use Rattle.std.specs.Option.{option_map_or}
use Rattle.std.specs.declared.cmp.Ordering.{Ordering}
use Rattle.std.specs.Ordering.{is_lt}
use Rattle.std.specs.Str.{bytes_eq}
use Rattle.resin_base.specs.declared.cell.Cell.{Cell}
use Rattle.resin_base.specs.declared.cell.Cell.TheVariants as cell
use Rattle.resin_base.specs.declared.cell.Column.{Column}
use Rattle.resin_base.specs.declared.cell.Row.{Row}
use Rattle.resin_base.specs.declared.stored.StoredCell.{StoredCell}
use Rattle.resin_sql.specs.declared.tree.Order.{Order}
use Rattle.resin_rows.specs.declared.columns.Place.{Place}
use Rattle.resin_rows.specs.Columns.{found}
use Rattle.resin_rows.specs.Cells.{fits, cell_order, value_at, shadow_at}

-- ---- rows that are written

abbrev pub value_of_place : List StoredCell → Option ℕ → Option StoredCell
value_of_place vs None = None
value_of_place vs (Some i) = slice_get vs i

-- the value that is given for a column: the one beside its name
abbrev pub given : List (List ℕ) → List StoredCell → List ℕ → Option StoredCell
given names vs name = value_of_place vs (position_from (λ n. bytes_eq n name) 0 names)

abbrev pub stored_or : Option StoredCell → StoredCell → StoredCell
stored_or None old = old
stored_or (Some v) old = v

abbrev pub stored_at : List Cell → ℕ → StoredCell
stored_at cells at = record { value = value_at cells at; shadow = shadow_at cells at }

abbrev pub changed_from : ℕ → List Column → List (List ℕ) → List StoredCell → List Cell → List Cell
changed_from at [] names vs old = []
changed_from at (column ∷ columns) names vs old =
    let v = stored_or (given names vs column.name) (stored_at old at) in
    v.value ∷ v.shadow ∷ changed_from (at + 1) columns names vs old

-- a row's cells with these values for these columns; the others stay
abbrev pub changed : List Column → List (List ℕ) → List StoredCell → List Cell → List Cell
changed columns names vs old = changed_from 0 columns names vs old

-- a row of NULLs, with empty shadows
abbrev pub blank : List Column → List Cell
blank [] = []
blank (column ∷ columns) = cell.Null ∷ cell.Text [] ∷ blank columns

-- the rows of an INSERT, whose values follow one another; columns that aren't named are NULL
abbrev pub inserted : {A : Type 0} → List Column → List (List ℕ) → List (List A) → List StoredCell → List (List Cell)
inserted columns names [] vs = []
inserted columns names (row ∷ rows) vs =
    changed columns names (take (length row) vs) (blank columns) ∷ inserted columns names rows (drop (length row) vs)

-- ---- rows that are answered

abbrev pub cells_of : List Row → List (List Cell)
cells_of rows = map (λ (r : Row). r.cells) rows

-- the cells of the row at a place, none behind the end
abbrev pub row_at : List (List Cell) → ℕ → List Cell
row_at rows i = option_map_or (λ cells. cells) (slice_get rows i) []

-- in the place behind those rows that do not come after it
abbrev pub put_in_order : {A : Type 0} → (A → A → Bool) → A → List A → List A
put_in_order before x [] = x ∷ []
put_in_order before x (y ∷ ys) = if before y x then y ∷ put_in_order before x ys else x ∷ y ∷ ys

-- in order; those of which neither comes before the other stay as they were
abbrev pub in_order : {A : Type 0} → (A → A → Bool) → List A → List A
in_order before [] = []
in_order before (x ∷ xs) = put_in_order before x (in_order before xs)

-- by a column, or the other way round by DESC, so that NULL is last then
abbrev pub row_order : Place → Bool → List Cell → List Cell → Ordering
row_order p descending a b =
    if descending then cell_order p.kind (value_at b p.at) (value_at a p.at) else cell_order p.kind (value_at a p.at) (value_at b p.at)

abbrev pub comes_before : Place → Bool → List Cell → List Cell → Bool
comes_before p descending a b = is_lt (row_order p descending a b)

abbrev pub by_place : Bool → Option Place → List (List Cell) → List (List Cell)
by_place descending None rows = rows
by_place descending (Some p) rows = in_order (comes_before p descending) rows

-- by ORDER BY, if it stands; ties stay in the order of the rows' numbers
abbrev pub ordered : List Column → Option Order → List (List Cell) → List (List Cell)
ordered columns None rows = rows
ordered columns (Some order) rows = by_place order.descending (found columns order.column) rows

abbrev pub limited : {A : Type 0} → Option ℕ → List A → List A
limited None rows = rows
limited (Some n) rows = take n rows

-- A cell as it is answered. One of another kind than its column's is answered as no value beside no shadow text, which no reader of cells takes.
abbrev pub answered_at : List Cell → Option Place → StoredCell
answered_at cells None = record { value = cell.Null; shadow = cell.Null }
answered_at cells (Some p) = if fits p.kind (value_at cells p.at) then stored_at cells p.at else record { value = cell.Null; shadow = cell.Null }

abbrev pub answered_row : List Column → List (List ℕ) → List Cell → List StoredCell
answered_row columns names cells = map (λ n. answered_at cells (found columns n)) names
