-- Rows that nobody names stay: what each call on tables leaves of the other tables, and of the other rows of its own (this project).
use Rattle.std.specs.Prelude.{◌≡◌, ℕ, Bool, true, false, not, List, [], ◌∷◌, ◌++◌, Option, Some, None, Result, ◌⊎◌, ⊤}
use Rattle.std.specs.FinMap.{get, contains_key}
use Rattle.resin_meaning_forms.specs.Under.base.TableStore.{TableStore, table_of, columns_of, rows_of, has_row}
use Rattle.resin_meaning_forms.specs.Under.base.TableStore.{after_create, next_number, after_insert, can_update, after_update, after_delete}
use Rattle.resin_meaning_forms.specs.Under.base.declared.cell.Cell.{Cell}
use Rattle.resin_meaning_forms.specs.Under.base.declared.cell.Column.{Column}
use Rattle.resin_meaning_forms.specs.Under.base.declared.cell.Row.{Row}
use Rattle.resin_meaning_forms.specs.Under.base.declared.faults.KeepFault.{KeepFault}
use Rattle.resin_meaning_forms.specs.Under.meaning_tables.Under.plan.TableCalls.{TableCall, SetRow, TakeRow, Answer, Changes}

-- ---- one call: what it tells, and what it leaves

-- every table of another name stands as it did
abbrev pub KeepsOthers : List ℕ → TableStore → TableStore → Type 0
KeepsOthers name s t = (other : List ℕ) → (other ≡ name → ⊥) → get t other ≡ get s other

-- A create that tells that it made the table leaves one of these columns without a row, where none was. One that didn't changes nothing.
pub record IsCreated (s : TableStore) (name : List ℕ) (columns : List Column) (made : Bool) (t : TableStore) : Type 0 where
  pub others : KeepsOthers name s t
  pub was_not : made ≡ true → get s name ≡ None
  pub is : made ≡ true → get t name ≡ Some (table_of columns [])
  pub refused : made ≡ false → t ≡ s

-- the row of these cells under this number
abbrev pub numbered : ℕ → List Cell → Row
numbered number cells = record { number = number; cells = cells }

-- An insert that tells a number leaves every row as it was, and behind them one row more, of that number, which none had. One that tells none
-- changes nothing.
pub record IsInserted (s : TableStore) (name : List ℕ) (cells : List Cell) (told : Option ℕ) (t : TableStore) : Type 0 where
  pub others : KeepsOthers name s t
  pub columns : columns_of t name ≡ columns_of s name
  pub rows : (number : ℕ) → told ≡ Some number → rows_of t name ≡ rows_of s name ++ numbered number cells ∷ []
  pub unused : (number : ℕ) → told ≡ Some number → has_row s name number ≡ false
  pub refused : told ≡ None → t ≡ s

-- a row keeps its number, and its cells too, but for the number that is named: there these are its cells
pub record IsSet (number : ℕ) (cells : List Cell) (before after : Row) : Type 0 where
  pub number_stays : after.number ≡ before.number
  pub cells_stay : (before.number ≡ number → ⊥) → after.cells ≡ before.cells
  pub cells_are : before.number ≡ number → after.cells ≡ cells

-- the same of rows, one by one in their order
abbrev pub AreSet : ℕ → List Cell → List Row → List Row → Type 0
AreSet number cells [] [] = ⊤
AreSet number cells (row ∷ rows) (after ∷ afters) = IsSet number cells row after × AreSet number cells rows afters
AreSet number cells [] (after ∷ afters) = ⊥
AreSet number cells (row ∷ rows) [] = ⊥

-- An update that tells that it was made sets the cells of the row that it names, and every other row stays. One that wasn't changes nothing.
pub record IsUpdated (s : TableStore) (name : List ℕ) (number : ℕ) (cells : List Cell) (made : Bool) (t : TableStore) : Type 0 where
  pub others : KeepsOthers name s t
  pub columns : columns_of t name ≡ columns_of s name
  pub rows : made ≡ true → AreSet number cells (rows_of s name) (rows_of t name)
  pub refused : made ≡ false → t ≡ s

-- those of a number are gone from the rows, and all others stand, in their order
pub data AreWithout (number : ℕ) : List Row → List Row → Type 0 where
  ends : AreWithout number [] []
  gone : {row : Row} {rows left : List Row} → row.number ≡ number → AreWithout number rows left → AreWithout number (row ∷ rows) left
  stays : {row : Row} {rows left : List Row} → (row.number ≡ number → ⊥) → AreWithout number rows left → AreWithout number (row ∷ rows) (row ∷ left)

-- A delete that tells that it was made takes the row out that it names, and every other row stays. One that wasn't changes nothing.
pub record IsDeleted (s : TableStore) (name : List ℕ) (number : ℕ) (made : Bool) (t : TableStore) : Type 0 where
  pub others : KeepsOthers name s t
  pub columns : columns_of t name ≡ columns_of s name
  pub rows : made ≡ true → AreWithout number (rows_of s name) (rows_of t name)
  pub refused : made ≡ false → t ≡ s

-- each call on tables leaves just that, by what it tells
abbrev pub CreateKeeps : Type 0
CreateKeeps =
    (s : TableStore) (name : List ℕ) (columns : List Column) → IsCreated s name columns (not (contains_key s name)) (after_create s name columns)

abbrev pub InsertKeeps : Type 0
InsertKeeps = (s : TableStore) (name : List ℕ) (cells : List Cell) → IsInserted s name cells (next_number s name cells) (after_insert s name cells)

abbrev pub UpdateKeeps : Type 0
UpdateKeeps =
    (s : TableStore) (name : List ℕ) (number : ℕ) (cells : List Cell)
    → IsUpdated s name number cells (can_update s name number cells) (after_update s name number cells)

abbrev pub DeleteKeeps : Type 0
DeleteKeeps = (s : TableStore) (name : List ℕ) (number : ℕ) → IsDeleted s name number (has_row s name number) (after_delete s name number)

-- ---- any calls, one after another

-- a row is one of these
abbrev pub IsAmong : Row → List Row → Type 0
IsAmong row [] = ⊥
IsAmong row (r ∷ rows) = (r ≡ row) ⊎ IsAmong row rows

-- a call names the row of this number in the table of this name: an update and a delete do
abbrev pub NamesRow : List ℕ → ℕ → TableCall → Type 0
NamesRow name number (SetRow table n cells) = (table ≡ name) × (n ≡ number)
NamesRow name number (TakeRow table n) = (table ≡ name) × (n ≡ number)
NamesRow name number call = ⊥

-- none of these calls does
abbrev pub NoneNames : List ℕ → ℕ → List TableCall → Type 0
NoneNames name number [] = ⊤
NoneNames name number (call ∷ calls) = (NamesRow name number call → ⊥) × NoneNames name number calls

-- a keeper was given these calls one after another: whatever it answered, and where it failed, they led from the one store to the other
abbrev pub Lead : List TableCall → TableStore → TableStore → Type 0
Lead [] s t = t ≡ s
Lead (call ∷ calls) s t = (r : Result (Answer call) KeepFault) × (u : TableStore) × Changes call s r u × Lead calls u t

-- a row that none of the calls names stands as it did
abbrev pub RowsStay : Type 0
RowsStay =
    (calls : List TableCall) (s t : TableStore) (name : List ℕ) (row : Row)
    → Lead calls s t → NoneNames name row.number calls → IsAmong row (rows_of s name) → IsAmong row (rows_of t name)
