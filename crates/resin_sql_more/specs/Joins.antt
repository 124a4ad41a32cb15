-- A join: the pairs of rows of two tables whose ON cells are equal and whose tests hold, by the first's row and then the second's.
use Rattle.std.specs.Prelude.{ℕ, ◌+◌, ◌*◌, ◌-◌, ◌^◌, min, Bool, false, not, ◌&&◌, ◌||◌}
use Rattle.std.specs.Prelude.{List, ◌++◌, length, map, filter, flat_map, Option, Some, None, is_none, if◌then◌else◌}
use Rattle.std.specs.List.{list_any}
use Rattle.std.specs.Str.{bytes_eq}
use Rattle.resin_base.specs.declared.cell.Cell.{Cell}
use Rattle.resin_base.specs.declared.cell.Column.{Column}
use Rattle.resin_base.specs.declared.cell.Row.{Row}
use Rattle.resin_base.specs.declared.stored.StoredCell.{StoredCell}
use Rattle.resin_sql.specs.Conditions.{dotted}
use Rattle.resin_sql.specs.declared.fault.SqlRefusal.{SqlRefusal}
use Rattle.resin_sql.specs.declared.fault.SqlRefusal.TheVariants.{SameTable, NoTable, NoColumn, WrongKind}
use Rattle.resin_sql.specs.declared.tree.Condition.{Condition, Condition-F, fold-Condition}
use Rattle.resin_sql.specs.declared.tree.Test.{Test}
use Rattle.resin_sql.specs.declared.tree.Test.TheVariants.{Compare, Null}
use Rattle.resin_joint.specs.Joins.{table_of}
use Rattle.resin_joint.specs.declared.tree.JoinStmt.{JoinStmt}
use Rattle.resin_rows.specs.declared.columns.Place.{Place}
use Rattle.resin_rows.specs.Cells.{are_equal, value_at, beside}
use Rattle.resin_rows.specs.Columns.{found, first_named, is_text, shape}
use Rattle.resin_rows.specs.Conditions.{where_holds, where_cause}
use Rattle.resin_rows.specs.Refusals.{earlier, names_cause}
use Rattle.resin_rows.specs.Rows.{cells_of, row_at, limited, answered_row}
use Rattle.resin_plan.specs.Plans.{Done, Ask}
use Rattle.resin_plan.specs.TableCalls.{AskColumns, AskRows}
use Rattle.resin_sql_more.specs.Plans.{End, Plan, Refuses, unless, paid}
use Rattle.resin_sql_more.specs.declared.answer.MoreAnswer.{MoreAnswer}

-- ---- the columns of both tables, each named with its table

abbrev pub of_table : List ℕ → Column → Column
of_table table column = record { name = dotted table column.name; kind = column.kind }

abbrev pub both_columns : JoinStmt → List Column → List Column → List Column
both_columns s ts us = map (of_table s.table) ts ++ map (of_table s.joined) us

-- ---- why a join is refused

-- a column whose table is neither of the two
abbrev pub strays : JoinStmt → List ℕ → Bool
strays s name = not (bytes_eq (table_of name) s.table || bytes_eq (table_of name) s.joined)

-- the column of a test
abbrev pub test_strays : JoinStmt → Test → Bool
test_strays s (Compare name op literal) = strays s name
test_strays s (Null name negated) = strays s name

abbrev pub level_strays : JoinStmt → Condition-F Bool → Bool
level_strays s (Condition-F.Test t) = test_strays s t
level_strays s (Condition-F.All parts) = list_any (λ b. b) parts
level_strays s (Condition-F.Any parts) = list_any (λ b. b) parts

-- some column of a condition
unfoldable pub condition_strays : JoinStmt → Condition → Bool
condition_strays s = fold-Condition Bool (level_strays s)

abbrev pub where_strays : JoinStmt → Option Condition → Bool
where_strays s None = false
where_strays s (Some w) = condition_strays s w

abbrev pub some_stray : JoinStmt → Bool
some_stray s = list_any (strays s) s.columns || strays s s.on.0 || strays s s.on.1 || where_strays s s.condition

abbrev pub table_cause : JoinStmt → Option SqlRefusal
table_cause s = if some_stray s then Some NoTable else None

-- ON between kinds
abbrev pub on_cause : Option Place → Option Place → Option SqlRefusal
on_cause None q = None
on_cause (Some p) None = None
on_cause (Some p) (Some q) = if (is_text p.kind && not (is_text q.kind)) || (not (is_text p.kind) && is_text q.kind) then Some WrongKind else None

-- the columns of ON
abbrev pub equated_cause : List Column → List ℕ → List ℕ → Option SqlRefusal
equated_cause columns p q = if is_none (found columns p) || is_none (found columns q) then Some NoColumn else None

abbrev pub join_cause : JoinStmt → List StoredCell → List Column → Option SqlRefusal
join_cause s vs columns =
    earlier (table_cause s)
    (earlier (names_cause columns s.columns)
    (earlier (equated_cause columns s.on.0 s.on.1)
    (earlier (where_cause columns s.condition vs) (on_cause (found columns s.on.0) (found columns s.on.1)))))

-- ---- the pairs

-- two cells of their columns' kind that are equal; NULL is equal to nothing
abbrev pub equal_at : List Cell → Option Place → Option Place → Bool
equal_at cells None q = false
equal_at cells (Some p) None = false
equal_at cells (Some p) (Some q) = are_equal p.kind (value_at cells p.at) (value_at cells q.at)

-- whether a pair is chosen
abbrev pub pair_holds : JoinStmt → List StoredCell → List Column → List Cell → Bool
pair_holds s vs columns cells = equal_at cells (found columns s.on.0) (found columns s.on.1) && where_holds columns s.condition vs cells

-- each row of the first table, which has so many columns, beside each of the second
abbrev pub pairs : ℕ → List (List Cell) → List (List Cell) → List (List Cell)
pairs columns firsts lasts = flat_map (λ a. map (beside columns a) lasts) firsts

-- the pair of the rows at two places
abbrev pub pair_at : ℕ → List (List Cell) → List (List Cell) → ℕ × ℕ → List Cell
pair_at columns firsts lasts p = beside columns (row_at firsts p.0) (row_at lasts p.1)

-- the chosen pairs, cut by LIMIT; `columns` are those of both tables, of which the first has so many
abbrev pub chosen_pairs : JoinStmt → List StoredCell → List Column → ℕ → List Row → List Row → List (List Cell)
chosen_pairs s vs columns width firsts lasts = limited s.limit (filter (pair_holds s vs columns) (pairs width (cells_of firsts) (cells_of lasts)))

-- ---- the answer

-- what looking at all pairs costs, in ticks, at most the greatest u64
abbrev pub cost : ℕ → ℕ → ℕ
cost a b = min (a + b + a * b) (2 ^ 64 - 1)

-- A column that is named twice is answered once. Columns keep their names as they were written.
unfoldable pub join_answer : JoinStmt → List StoredCell → List Column → ℕ → List Row → List Row → MoreAnswer
join_answer s vs columns width firsts lasts = record {
  scanned = cost (length firsts) (length lasts);
  names = first_named s.columns;
  rows = map (answered_row columns (first_named s.columns)) (chosen_pairs s vs columns width firsts lasts);
  chosen = length (chosen_pairs s vs columns width firsts lasts);
}

unfoldable pub join_end : JoinStmt → List StoredCell → ℕ → List Column → ℕ → List Row → List Row → End
join_end s vs left columns width firsts lasts = paid left (cost (length firsts) (length lasts)) (join_answer s vs columns width firsts lasts)

-- ---- its keeper calls: the columns of both tables, and then the rows of both

abbrev pub join_over : JoinStmt → List StoredCell → ℕ → List Column → ℕ → Plan
join_over s vs left columns width =
    unless (join_cause s vs columns)
    (Ask (AskRows s.table) (λ firsts. Ask (AskRows s.joined) (λ lasts. Done (join_end s vs left columns width firsts lasts))))

unfoldable pub join_rows : JoinStmt → List StoredCell → ℕ → List Column → List Column → Plan
join_rows s vs left ts us = join_over s vs left (both_columns s ts us) (length ts)

abbrev pub shape_of : Option (List Column) → Option (List Column)
shape_of None = None
shape_of (Some kept) = shape kept

abbrev pub join_on : JoinStmt → List StoredCell → ℕ → Option (List Column) → Option (List Column) → Plan
join_on s vs left None us = Done (Refuses NoTable)
join_on s vs left (Some ts) None = Done (Refuses NoTable)
join_on s vs left (Some ts) (Some us) = join_rows s vs left ts us

-- a table isn't joined with itself; that is told before any call
unfoldable pub join_plan : JoinStmt → List StoredCell → ℕ → Plan
join_plan s vs left =
    if bytes_eq s.table s.joined then Done (Refuses SameTable) else
    Ask (AskColumns s.table) (λ ts. Ask (AskColumns s.joined) (λ us. join_on s vs left (shape_of ts) (shape_of us)))
