-- Cells: kinds, tests and order.
use Rattle.std.specs.Prelude.{ℕ, zero, suc, ◌+◌, ◌*◌, Bool, true, false, ◌&&◌, List, [], ◌∷◌, ◌++◌, slice_get, Option, Some, None}
use Rattle.std.specs.declared.cmp.Ordering.{Ordering}
use Rattle.std.specs.Ordering.{int_cmp, bool_cmp, is_eq, is_ne, is_lt, is_le, is_gt, is_ge}
use Rattle.resin_base.specs.Contents.{byte_order}
use Rattle.resin_base.specs.declared.cell.Cell.{Cell}
use Rattle.resin_base.specs.declared.cell.Cell.TheVariants as cell
use Rattle.resin_base.specs.declared.cell.Kind.{Kind}
use Rattle.resin_base.specs.declared.cell.Kind.TheVariants as kind
use Rattle.resin_sql.specs.declared.tree.Comparison.{Comparison}
use Rattle.resin_sql.specs.declared.tree.Comparison.TheVariants.{Equal, NotEqual, Less, LessOrEqual, Greater, GreaterOrEqual}

abbrev pub is_null : Cell → Bool
is_null cell.Null = true
is_null c = false

-- a value of this kind
abbrev pub is_of_kind : Kind → Cell → Bool
is_of_kind kind.Integer (cell.Int n) = true
is_of_kind kind.Text (cell.Text t) = true
is_of_kind k c = false

-- a value of this kind, or NULL
abbrev pub fits : Kind → Cell → Bool
fits k cell.Null = true
fits k c = is_of_kind k c

-- integers as numbers, texts by their bytes; others can't be compared
abbrev pub compared : Cell → Cell → Option Ordering
compared (cell.Int a) (cell.Int b) = Some (int_cmp a b)
compared (cell.Text a) (cell.Text b) = Some (byte_order a b)
compared a b = None

abbrev pub allows : Comparison → Ordering → Bool
allows Equal o = is_eq o
allows NotEqual o = is_ne o
allows Less o = is_lt o
allows LessOrEqual o = is_le o
allows Greater o = is_gt o
allows GreaterOrEqual o = is_ge o

abbrev pub allows_some : Comparison → Option Ordering → Bool
allows_some op None = false
allows_some op (Some o) = allows op o

-- a test of a cell against a value; with NULL, and with a cell of another kind, it is false
abbrev pub meets : Comparison → Cell → Cell → Bool
meets op a b = allows_some op (compared a b)

-- two values of this kind that are equal
abbrev pub are_equal : Kind → Cell → Cell → Bool
are_equal k a b = is_of_kind k a && meets Equal a b

-- `IS NULL`, and `IS NOT NULL` where it is negated; both are false of a cell of another kind than its column's
abbrev pub meets_null : Bool → Kind → Cell → Bool
meets_null false k c = is_null c
meets_null true k c = is_of_kind k c

-- the order of two cells of a column: NULL is first, and so is a cell of another kind
abbrev pub cell_order : Kind → Cell → Cell → Ordering
cell_order kind.Integer (cell.Int a) (cell.Int b) = int_cmp a b
cell_order kind.Text (cell.Text a) (cell.Text b) = byte_order a b
cell_order k a b = bool_cmp (is_of_kind k a) (is_of_kind k b)

abbrev pub or_null : Option Cell → Cell
or_null None = cell.Null
or_null (Some c) = c

-- the cell at a place; behind a row's end it is NULL
abbrev pub cell_at : List Cell → ℕ → Cell
cell_at cells i = or_null (slice_get cells i)

-- the value and the shadow of the column at a place
abbrev pub value_at : List Cell → ℕ → Cell
value_at cells at = cell_at cells (2 * at)

abbrev pub shadow_at : List Cell → ℕ → Cell
shadow_at cells at = cell_at cells (2 * at + 1)

-- so many cells of a row; those behind its end are NULL
abbrev pub fitted : ℕ → List Cell → List Cell
fitted zero cells = []
fitted (suc n) [] = cell.Null ∷ fitted n []
fitted (suc n) (c ∷ cells) = c ∷ fitted n cells

-- a row of a table with so many columns, and another row behind it
abbrev pub beside : ℕ → List Cell → List Cell → List Cell
beside columns a b = fitted (2 * columns) a ++ b
