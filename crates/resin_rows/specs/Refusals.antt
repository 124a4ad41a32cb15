-- Why a statement is refused. Of several causes the first in the order of `SqlRefusal` is told.
use Rattle.std.specs.Prelude.{ℕ, nat_le, ◌==◌, List, [], ◌∷◌, length, take, drop, Option, Some, None, is_none, if◌then◌else◌}
use Rattle.std.specs.List.{list_any}
use Rattle.resin_base.specs.declared.cell.Column.{Column}
use Rattle.resin_base.specs.declared.stored.StoredCell.{StoredCell}
use Rattle.resin_sql.specs.declared.fault.SqlRefusal.{SqlRefusal}
use Rattle.resin_sql.specs.declared.fault.SqlRefusal.TheVariants.{TableExists, SameTable, NoTable, NoColumn}
use Rattle.resin_sql.specs.declared.fault.SqlRefusal.TheVariants.{DuplicateColumn, WrongCount, WrongKind, Full}
use Rattle.resin_rows.specs.declared.columns.Place.{Place}
use Rattle.resin_rows.specs.Columns.{found, is_repeated}
use Rattle.resin_rows.specs.Cells.{fits}

-- the place of a refusal in the order
abbrev pub rank : SqlRefusal → ℕ
rank TableExists = 0
rank SameTable = 1
rank NoTable = 2
rank NoColumn = 3
rank DuplicateColumn = 4
rank WrongCount = 5
rank WrongKind = 6
rank Full = 7

-- the earlier of two causes, where there are any
abbrev pub earlier : Option SqlRefusal → Option SqlRefusal → Option SqlRefusal
earlier None y = y
earlier (Some x) None = Some x
earlier (Some x) (Some y) = if nat_le (rank x) (rank y) then Some x else Some y

-- a column that is named where any may be
abbrev pub name_cause : List Column → List ℕ → Option SqlRefusal
name_cause columns name = if is_none (found columns name) then Some NoColumn else None

abbrev pub names_cause : List Column → List (List ℕ) → Option SqlRefusal
names_cause columns names = if list_any (λ n. is_none (found columns n)) names then Some NoColumn else None

-- columns that are named where none may be named twice
abbrev pub once_cause : List Column → List (List ℕ) → Option SqlRefusal
once_cause columns names = earlier (names_cause columns names) (if is_repeated names then Some DuplicateColumn else None)

-- a value for a column; that a column isn't there is told where it is named
abbrev pub value_cause : Option Place → StoredCell → Option SqlRefusal
value_cause None v = None
value_cause (Some p) v = if fits p.kind v.value then None else Some WrongKind

-- values for columns, one for each
abbrev pub values_cause : List Column → List (List ℕ) → List StoredCell → Option SqlRefusal
values_cause columns [] vs = None
values_cause columns (n ∷ ns) [] = None
values_cause columns (n ∷ ns) (v ∷ vs) = earlier (value_cause (found columns n) v) (values_cause columns ns vs)

-- a row of so many cells for so many columns
abbrev pub count_cause : ℕ → ℕ → Option SqlRefusal
count_cause cells columns = if cells == columns then None else Some WrongCount

-- rows of literals, whose values follow one another
abbrev pub rows_cause : {A : Type 0} → List Column → List (List ℕ) → List (List A) → List StoredCell → Option SqlRefusal
rows_cause columns names [] vs = None
rows_cause columns names (row ∷ rows) vs =
    earlier (earlier (count_cause (length row) (length names)) (values_cause columns names (take (length row) vs)))
    (rows_cause columns names rows (drop (length row) vs))
