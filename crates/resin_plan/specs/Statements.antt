-- What each statement does to tables, as a plan.
use Rattle.std.specs.Prelude.{ℕ, ◌+◌, Bool, true, false, List, [], ◌∷◌, length, map, filter, take, drop, Option, Some, None, if◌then◌else◌}
use Rattle.resin_base.specs.declared.cell.Cell.{Cell}
use Rattle.resin_base.specs.declared.cell.Column.{Column}
use Rattle.resin_base.specs.declared.cell.Row.{Row}
use Rattle.resin_base.specs.declared.stored.StoredCell.{StoredCell}
use Rattle.resin_sql.specs.declared.fault.SqlRefusal.{SqlRefusal}
use Rattle.resin_sql.specs.declared.fault.SqlRefusal.TheVariants.{TableExists, NoTable, DuplicateColumn, Full}
use Rattle.resin_sql.specs.declared.tree.Change.{Change}
use Rattle.resin_sql.specs.declared.tree.Condition.{Condition}
use Rattle.resin_sql.specs.declared.tree.Create.{Create}
use Rattle.resin_sql.specs.declared.tree.Delete.{Delete}
use Rattle.resin_sql.specs.declared.tree.Insert.{Insert}
use Rattle.resin_sql.specs.declared.tree.Order.{Order}
use Rattle.resin_sql.specs.declared.tree.Select.{Select}
use Rattle.resin_sql.specs.declared.tree.Stmt.{Stmt}
use Rattle.resin_sql.specs.declared.tree.Stmt.TheVariants as statement
use Rattle.resin_sql.specs.declared.tree.Update.{Update}
use Rattle.resin_plan.specs.declared.answer.SqlAnswer.{SqlAnswer}
use Rattle.resin_plan.specs.declared.answer.SqlResult.TheVariants.{Count, Rows}
use Rattle.resin_plan.specs.TableCalls.{MakeTable, AskColumns, AskRows, AddRow, SetRow, TakeRow}
use Rattle.resin_plan.specs.Plans.{Plan, Ask, give, refuse, unless}
use Rattle.resin_rows.specs.Columns.{names_of, is_repeated, first_named, paired, shape}
use Rattle.resin_rows.specs.Refusals.{earlier, name_cause, names_cause, once_cause, values_cause, rows_cause}
use Rattle.resin_rows.specs.Conditions.{where_holds, where_cause}
use Rattle.resin_rows.specs.Rows.{changed, inserted, cells_of, ordered, limited, answered_row}

-- so many rows were made, changed or taken out; `scanned`: how many rows the keeper gave
abbrev pub counted : ℕ → ℕ → Plan
counted scanned n = give (record { scanned = scanned; result = Count n })

-- ---- the table of a statement that isn't CREATE

abbrev pub with_shape : (List Column → Plan) → Option (List Column) → Plan
with_shape rest None = refuse NoTable
with_shape rest (Some columns) = rest columns

abbrev pub with_columns : (List Column → Plan) → Option (List Column) → Plan
with_columns rest None = refuse NoTable
with_columns rest (Some kept) = with_shape rest (shape kept)

-- its columns are asked for, and the rest goes by them
abbrev pub on_table : List ℕ → (List Column → Plan) → Plan
on_table name rest = Ask (AskColumns name) (with_columns rest)

-- ---- CREATE

abbrev pub created : Bool → Plan
created true = counted 0 0
created false = refuse TableExists

unfoldable pub create : Create → Plan
create c =
    if is_repeated (names_of c.columns) then refuse DuplicateColumn else Ask (MakeTable c.table (paired c.columns)) created

-- ---- INSERT

-- the columns that its rows are for
abbrev pub named : Option (List (List ℕ)) → List Column → List (List ℕ)
named None columns = names_of columns
named (Some names) columns = names

abbrev pub insert_cause : Insert → List StoredCell → List Column → List (List ℕ) → Option SqlRefusal
insert_cause i vs columns names = earlier (once_cause columns names) (rows_cause columns names i.rows vs)

-- the rows are added one by one; those before a row that isn't taken stay
abbrev pub added : Plan → Option ℕ → Plan
added rest None = refuse Full
added rest (Some number) = rest

abbrev pub insert_rows : List ℕ → List (List Cell) → ℕ → Plan
insert_rows name [] n = counted 0 n
insert_rows name (cells ∷ rows) n = Ask (AddRow name cells) (added (insert_rows name rows (n + 1)))

unfoldable pub insert_into : Insert → List StoredCell → List Column → List (List ℕ) → Plan
insert_into i vs columns names =
    unless (insert_cause i vs columns names) (insert_rows i.table (inserted columns names i.rows vs) 0)

unfoldable pub insert : Insert → List StoredCell → Plan
insert i vs = on_table i.table (λ columns. insert_into i vs columns (named i.columns columns))

-- ---- SELECT

abbrev pub order_cause : List Column → Option Order → Option SqlRefusal
order_cause columns None = None
order_cause columns (Some order) = name_cause columns order.column

abbrev pub select_cause : Select → List StoredCell → List Column → List (List ℕ) → Option SqlRefusal
select_cause s vs columns names =
    earlier (names_cause columns names) (earlier (where_cause columns s.condition vs) (order_cause columns s.order))

-- the cells of the rows that meet the condition, in order, and no more than the limit
abbrev pub selected : Select → List StoredCell → List Column → List Row → List (List Cell)
selected s vs columns rows =
    limited s.limit (ordered columns s.order (filter (where_holds columns s.condition vs) (cells_of rows)))

-- A column that is named twice is answered once.
unfoldable pub selection : Select → List StoredCell → List Column → List (List ℕ) → List Row → SqlAnswer
selection s vs columns names rows = record {
  scanned = length rows;
  result = Rows (first_named names) (map (answered_row columns (first_named names)) (selected s vs columns rows));
}

unfoldable pub select_from : Select → List StoredCell → List Column → List (List ℕ) → Plan
select_from s vs columns names =
    unless (select_cause s vs columns names) (Ask (AskRows s.table) (λ rows. give (selection s vs columns names rows)))

unfoldable pub select : Select → List StoredCell → Plan
select s vs = on_table s.table (λ columns. select_from s vs columns (named s.columns columns))

-- ---- UPDATE and DELETE

abbrev pub chosen : List Column → Option Condition → List StoredCell → List Row → List Row
chosen columns condition vs rows = filter (λ (r : Row). where_holds columns condition vs r.cells) rows

-- one more, if the row was there
abbrev pub one_more : ℕ → Bool → ℕ
one_more n was = if was then n + 1 else n

abbrev pub changed_names : Update → List (List ℕ)
changed_names u = map (λ (c : Change). c.column) u.changes

-- the values of the changes stand before those of the condition
abbrev pub update_cause : Update → List StoredCell → List Column → List (List ℕ) → Option SqlRefusal
update_cause u vs columns names =
    earlier (once_cause columns names)
    (earlier (values_cause columns names (take (length u.changes) vs)) (where_cause columns u.condition (drop (length u.changes) vs)))

abbrev pub changed_row : List Column → List (List ℕ) → List StoredCell → Row → Row
changed_row columns names vs row = record { number = row.number; cells = changed columns names vs row.cells }

-- the chosen rows with their changed cells
unfoldable pub changed_rows : Update → List StoredCell → List Column → List (List ℕ) → List Row → List Row
changed_rows u vs columns names rows =
    map (changed_row columns names (take (length u.changes) vs)) (chosen columns u.condition (drop (length u.changes) vs) rows)

-- each is set, in the keeper's order
abbrev pub update_rows : ℕ → List ℕ → List Row → ℕ → Plan
update_rows scanned name [] n = counted scanned n
update_rows scanned name (row ∷ rows) n = Ask (SetRow name row.number row.cells) (λ was. update_rows scanned name rows (one_more n was))

unfoldable pub update_in : Update → List StoredCell → List Column → List (List ℕ) → Plan
update_in u vs columns names =
    unless (update_cause u vs columns names)
    (Ask (AskRows u.table) (λ rows. update_rows (length rows) u.table (changed_rows u vs columns names rows) 0))

unfoldable pub update : Update → List StoredCell → Plan
update u vs = on_table u.table (λ columns. update_in u vs columns (changed_names u))

unfoldable pub chosen_numbers : List Column → Option Condition → List StoredCell → List Row → List ℕ
chosen_numbers columns condition vs rows = map (λ (r : Row). r.number) (chosen columns condition vs rows)

-- each row of these numbers is taken out, in the keeper's order
abbrev pub delete_rows : ℕ → List ℕ → List ℕ → ℕ → Plan
delete_rows scanned name [] n = counted scanned n
delete_rows scanned name (number ∷ numbers) n = Ask (TakeRow name number) (λ was. delete_rows scanned name numbers (one_more n was))

unfoldable pub delete_in : Delete → List StoredCell → List Column → Plan
delete_in d vs columns =
    unless (where_cause columns d.condition vs)
    (Ask (AskRows d.table) (λ rows. delete_rows (length rows) d.table (chosen_numbers columns d.condition vs rows) 0))

unfoldable pub delete : Delete → List StoredCell → Plan
delete d vs = on_table d.table (λ columns. delete_in d vs columns)

-- ---- the plan of a statement, whose literals have these values, in their order

unfoldable pub plan : Stmt → List StoredCell → Plan
plan (statement.Create c) vs = create c
plan (statement.Insert i) vs = insert i vs
plan (statement.Select s) vs = select s vs
plan (statement.Update u) vs = update u vs
plan (statement.Delete d) vs = delete d vs
