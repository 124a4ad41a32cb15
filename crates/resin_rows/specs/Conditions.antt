-- Conditions: which rows meet them, and when their tests are refused. The literals of a condition have their values in a list, in the order
-- in which they stand; each test takes its own from the front.
use Rattle.std.specs.Prelude.{◌&&◌, ◌||◌, Bool, true, false, List, [], ◌∷◌, drop, Option, Some, None}
use Rattle.resin_base.specs.declared.cell.Cell.{Cell}
use Rattle.resin_base.specs.declared.cell.Cell.TheVariants as cell
use Rattle.resin_base.specs.declared.cell.Column.{Column}
use Rattle.resin_base.specs.declared.stored.StoredCell.{StoredCell}
use Rattle.resin_sql.specs.declared.fault.SqlRefusal.{SqlRefusal}
use Rattle.resin_sql.specs.declared.tree.Condition.{Condition, Condition-F, fold-Condition}
use Rattle.resin_sql.specs.declared.tree.Test.{Test}
use Rattle.resin_sql.specs.declared.tree.Test.TheVariants.{Compare, Null}
use Rattle.resin_rows.specs.declared.columns.Place.{Place}
use Rattle.resin_rows.specs.Columns.{found}
use Rattle.resin_rows.specs.Cells.{meets, meets_null, value_at}
use Rattle.resin_rows.specs.Refusals.{earlier, value_cause, name_cause}

-- what a part of a condition says by the values that are left, and those that it leaves
abbrev pub Part : Type 0 → Type 0
Part A = List StoredCell → A × List StoredCell

-- the value in front; where none is left it is NULL
abbrev pub front_value : List StoredCell → Cell
front_value [] = cell.Null
front_value (v ∷ vs) = v.value

-- ---- whether a row of these cells meets it

abbrev pub place_meets : (Place → Bool) → Option Place → Bool
place_meets test None = false
place_meets test (Some p) = test p

abbrev pub test_holds : List Column → List Cell → Test → Part Bool
test_holds columns cells (Compare name op literal) vs =
    (place_meets (λ (p : Place). meets op (value_at cells p.at) (front_value vs)) (found columns name), drop 1 vs)
test_holds columns cells (Null name negated) vs =
    (place_meets (λ (p : Place). meets_null negated p.kind (value_at cells p.at)) (found columns name), vs)

abbrev pub all_hold : List (Part Bool) → Part Bool
all_hold [] vs = (true, vs)
all_hold (p ∷ ps) vs = let first = p vs in let others = all_hold ps first.1 in (first.0 && others.0, others.1)

abbrev pub any_holds : List (Part Bool) → Part Bool
any_holds [] vs = (false, vs)
any_holds (p ∷ ps) vs = let first = p vs in let others = any_holds ps first.1 in (first.0 || others.0, others.1)

-- one level, with what its parts say
abbrev pub level_holds : List Column → List Cell → Condition-F (Part Bool) → Part Bool
level_holds columns cells (Condition-F.Test t) = test_holds columns cells t
level_holds columns cells (Condition-F.All ps) = all_hold ps
level_holds columns cells (Condition-F.Any ps) = any_holds ps

unfoldable pub holds : List Column → List Cell → Condition → Part Bool
holds columns cells = fold-Condition (Part Bool) (level_holds columns cells)

-- ---- why its tests are refused: a column that isn't there, or a value of another kind

abbrev pub test_cause : List Column → Test → Part (Option SqlRefusal)
test_cause columns (Compare name op literal) [] = (name_cause columns name, [])
test_cause columns (Compare name op literal) (v ∷ vs) = (earlier (name_cause columns name) (value_cause (found columns name) v), vs)
test_cause columns (Null name negated) vs = (name_cause columns name, vs)

abbrev pub parts_cause : List (Part (Option SqlRefusal)) → Part (Option SqlRefusal)
parts_cause [] vs = (None, vs)
parts_cause (p ∷ ps) vs = let first = p vs in let others = parts_cause ps first.1 in (earlier first.0 others.0, others.1)

abbrev pub level_cause : List Column → Condition-F (Part (Option SqlRefusal)) → Part (Option SqlRefusal)
level_cause columns (Condition-F.Test t) = test_cause columns t
level_cause columns (Condition-F.All ps) = parts_cause ps
level_cause columns (Condition-F.Any ps) = parts_cause ps

unfoldable pub condition_cause : List Column → Condition → Part (Option SqlRefusal)
condition_cause columns = fold-Condition (Part (Option SqlRefusal)) (level_cause columns)

-- ---- WHERE, which may be left out

abbrev pub where_holds : List Column → Option Condition → List StoredCell → List Cell → Bool
where_holds columns None vs cells = true
where_holds columns (Some w) vs cells = (holds columns cells w vs).0

abbrev pub where_cause : List Column → Option Condition → List StoredCell → Option SqlRefusal
where_cause columns None vs = None
where_cause columns (Some w) vs = (condition_cause columns w vs).0
