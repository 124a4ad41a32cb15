-- What joins and totals answer of tables whose cells carry their policies (resin_sql_more has them over what a keeper holds). They change nothing.
use Rattle.std.specs.Prelude.{◌≡◌, ℕ, nat_lt, not, Bool, List, [], ◌++◌}
use Rattle.std.specs.Prelude.{length, map, filter, flat_map, Option, Some, None, Result, Ok, Err, if◌then◌else◌, ⊤}
use Rattle.std.specs.FinMap.{get}
use Rattle.std.specs.Str.{bytes_eq}
use Rattle.resin_base.specs.declared.cell.Column.{Column}
use Rattle.resin_store.specs.Cells.{LabelledCell, plain_cell}
use Rattle.resin_meaning_forms.specs.Under.meaning_tables.Under.sql.declared.fault.SqlRefusal.{SqlRefusal}
use Rattle.resin_meaning_forms.specs.Under.meaning_tables.Under.sql.declared.fault.SqlRefusal.TheVariants.{SameTable, NoTable}
use Rattle.resin_meaning_forms.specs.Under.meaning_tables.Under.sql.declared.fault.SqlStop.{SqlStop}
use Rattle.resin_meaning_forms.specs.Under.meaning_tables.Under.sql.declared.fault.SqlStop.TheVariants.{Refused, Keeper, Spent, Memory}
use Rattle.resin_meaning_forms.specs.Under.meaning_tables.Under.joint.declared.tree.JoinStmt.{JoinStmt}
use Rattle.resin_meaning_forms.specs.Under.meaning_tables.Under.joint.declared.tree.TotalStmt.{TotalStmt}
use Rattle.resin_meaning_forms.specs.Under.meaning_tables.Under.rows.Columns.{first_named, found}
use Rattle.resin_meaning_forms.specs.Under.meaning_tables.Under.rows.Rows.{limited}
use Rattle.resin_meaning_forms.specs.Under.meaning_tables.Under.sql_more.Joins.{both_columns, join_cause, pair_holds, cost}
use Rattle.resin_meaning_forms.specs.Under.meaning_tables.Under.sql_more.Plans.{End}
use Rattle.resin_meaning_forms.specs.Under.meaning_tables.Under.sql_more.Plans as plain_end
use Rattle.resin_meaning_forms.specs.Under.meaning_tables.Under.sql_more.Totals.{item_name, first_items, item_column, total_cause, is_null}
use Rattle.resin_meaning_forms.specs.Under.meaning_tables.Under.sql_more.declared.answer.MoreAnswer.{MoreAnswer}
use Rattle.resin_frame.specs.LabelledTables.{LabelledRow, LabelledTable, Rows, Odd, LabelledTables, plain_cells}
use Rattle.resin_statement_laws.specs.Effects.{plain_values, cell_told, cells_told, rows_chosen}

-- ---- what they come to

-- what looking at the rows cost; names, and rows of cells, as resin_sql_more has them; how many rows, or pairs, were chosen
pub record LabelledMore : Type 0 where
  pub scanned : ℕ
  pub names : List (List ℕ)
  pub rows : List (List LabelledCell)
  pub chosen : ℕ

pub data LabelledMoreEnd : Type 0 where
  Answers : LabelledMore → LabelledMoreEnd
  Refuses : SqlRefusal → LabelledMoreEnd
  -- the rows cost more than is left
  Costs : LabelledMoreEnd

-- what the runtime answers
abbrev pub plain_more : LabelledMore → MoreAnswer
plain_more answer = record { scanned = answer.scanned; names = answer.names; rows = map plain_values answer.rows; chosen = answer.chosen }

abbrev pub plain_more_end : LabelledMoreEnd → End
plain_more_end (Answers answer) = plain_end.Answers (plain_more answer)
plain_more_end (Refuses x) = plain_end.Refuses x
plain_more_end Costs = plain_end.Costs

-- the answer, if what its rows cost is left
abbrev pub paid : ℕ → ℕ → LabelledMore → LabelledMoreEnd
paid left price answer = if nat_lt left price then Costs else Answers answer

-- refused, where there is a cause
abbrev pub unless : Option SqlRefusal → LabelledMoreEnd → LabelledMoreEnd
unless None rest = rest
unless (Some x) rest = Refuses x

-- ---- joins

-- each row of the first table beside each of the second: its cells, and behind them those of the other
abbrev pub pairs : List LabelledRow → List LabelledRow → List (List LabelledCell)
pairs firsts lasts = flat_map (λ (a : LabelledRow). map (λ (b : LabelledRow). a.cells ++ b.cells) lasts) firsts

-- a pair is chosen by its values
abbrev pub is_chosen_pair : JoinStmt → List LabelledCell → List Column → List LabelledCell → Bool
is_chosen_pair s vs columns cells = pair_holds s (plain_values vs) columns (plain_cells cells)

abbrev pub pairs_chosen : JoinStmt → List LabelledCell → List Column → List LabelledRow → List LabelledRow → List (List LabelledCell)
pairs_chosen s vs columns firsts lasts = limited s.limit (filter (is_chosen_pair s vs columns) (pairs firsts lasts))

-- A column that is named twice is answered once.
unfoldable pub joined : JoinStmt → List LabelledCell → List Column → List LabelledRow → List LabelledRow → LabelledMore
joined s vs columns firsts lasts = record {
  scanned = cost (length firsts) (length lasts);
  names = first_named s.columns;
  rows = map (cells_told columns (first_named s.columns)) (pairs_chosen s vs columns firsts lasts);
  chosen = length (pairs_chosen s vs columns firsts lasts);
}

unfoldable pub join_over : JoinStmt → List LabelledCell → ℕ → List Column → List LabelledRow → List Column → List LabelledRow → LabelledMoreEnd
join_over s vs left ts firsts us lasts =
    let columns = both_columns s ts us in
    unless (join_cause s (plain_values vs) columns) (paid left (cost (length firsts) (length lasts)) (joined s vs columns firsts lasts))

-- by both tables; an odd one is as one that isn't there
abbrev pub join_of : JoinStmt → List LabelledCell → ℕ → Option LabelledTable → Option LabelledTable → LabelledMoreEnd
join_of s vs left None other = Refuses NoTable
join_of s vs left (Some (Odd table)) other = Refuses NoTable
join_of s vs left (Some (Rows ts firsts)) None = Refuses NoTable
join_of s vs left (Some (Rows ts firsts)) (Some (Odd table)) = Refuses NoTable
join_of s vs left (Some (Rows ts firsts)) (Some (Rows us lasts)) = join_over s vs left ts firsts us lasts

-- what a join comes to, where so many ticks are left; a table isn't joined with itself
unfoldable pub join_effect : JoinStmt → List LabelledCell → ℕ → LabelledTables → LabelledMoreEnd
join_effect s vs left tables = if bytes_eq s.table s.joined then Refuses SameTable else join_of s vs left (get tables s.table) (get tables s.joined)

-- ---- totals

-- the cells that an item is a value of: those of its column in the chosen rows that aren't NULL
abbrev pub item_cells : List Column → List LabelledRow → Option (List ℕ) → List LabelledCell
item_cells columns rows None = []
item_cells columns rows (Some column) =
    filter (λ c. not (is_null (plain_cell c))) (map (λ (row : LabelledRow). cell_told row.cells (found columns column)) rows)

unfoldable pub totalled : TotalStmt → List LabelledCell → List Column → List LabelledRow → LabelledMore
totalled s vs columns rows = record {
  scanned = length rows;
  names = map item_name (first_items s.items);
  rows = map (λ it. item_cells columns (rows_chosen columns s.condition vs rows) (item_column it)) (first_items s.items);
  chosen = length (rows_chosen columns s.condition vs rows);
}

unfoldable pub total_over : TotalStmt → List LabelledCell → ℕ → List Column → List LabelledRow → LabelledMoreEnd
total_over s vs left columns rows = unless (total_cause s (plain_values vs) columns) (paid left (length rows) (totalled s vs columns rows))

abbrev pub total_of : TotalStmt → List LabelledCell → ℕ → Option LabelledTable → LabelledMoreEnd
total_of s vs left None = Refuses NoTable
total_of s vs left (Some (Odd table)) = Refuses NoTable
total_of s vs left (Some (Rows columns rows)) = total_over s vs left columns rows

-- what a total comes to, where so many ticks are left
abbrev pub total_effect : TotalStmt → List LabelledCell → ℕ → LabelledTables → LabelledMoreEnd
total_effect s vs left tables = total_of s vs left (get tables s.table)

-- ---- runs

-- a run that has an answer, or is refused, has that of the effect
abbrev pub ComesTo : LabelledMoreEnd → Result MoreAnswer SqlStop → Type 0
ComesTo e (Ok answer) = plain_end.Answers answer ≡ plain_more_end e
ComesTo e (Err (Refused x)) = plain_end.Refuses x ≡ plain_more_end e
ComesTo e (Err Keeper) = ⊤
ComesTo e (Err Spent) = ⊤
ComesTo e (Err Memory) = ⊤
