-- The literals of a statement, NULL among them, in the order in which they stand. The number of LIMIT is none.
use Rattle.std.specs.Prelude.{List, [], ◌∷◌, ◌++◌, map, Option, Some, None}
use Rattle.std.specs.List.{flat_map}
use Rattle.resin_sql_words.specs.declared.literals.Literal.{Literal}
use Rattle.resin_sql.specs.declared.tree.Change.{Change}
use Rattle.resin_sql.specs.declared.tree.Condition.{Condition, Condition-F, fold-Condition}
use Rattle.resin_sql.specs.declared.tree.Stmt.{Stmt}
use Rattle.resin_sql.specs.declared.tree.Stmt.TheVariants as s
use Rattle.resin_sql.specs.declared.tree.Test.{Test}
use Rattle.resin_sql.specs.declared.tree.Test.TheVariants as t

abbrev pub of_test : Test → List Literal
of_test (t.Compare column op literal) = literal ∷ []
of_test (t.Null column negated) = []

-- one level, with the literals of its parts
abbrev pub of_level : Condition-F (List Literal) → List Literal
of_level (Condition-F.Test test) = of_test test
of_level (Condition-F.All parts) = flat_map (λ part. part) parts
of_level (Condition-F.Any parts) = flat_map (λ part. part) parts

unfoldable pub of_condition : Condition → List Literal
of_condition = fold-Condition (List Literal) of_level

abbrev pub of_where : Option Condition → List Literal
of_where None = []
of_where (Some condition) = of_condition condition

-- row by row
abbrev pub of_rows : List (List Literal) → List Literal
of_rows rows = flat_map (λ (row : List Literal). row) rows

abbrev pub of_changes : List Change → List Literal
of_changes changes = map (λ (c : Change). c.literal) changes

abbrev pub literals : Stmt → List Literal
literals (s.Create c) = []
literals (s.Insert i) = of_rows i.rows
literals (s.Select q) = of_where q.condition
literals (s.Update u) = of_changes u.changes ++ of_where u.condition
literals (s.Delete d) = of_where d.condition
