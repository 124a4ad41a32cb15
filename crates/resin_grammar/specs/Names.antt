-- The names of the grammar of expressions: what may hold itself. Each stands for what follows the token that opens it.
use Rattle.std.specs.Prelude.{ℕ, List, Option}
use Rattle.resin_tree.specs.declared.expression.Expr.{Expr}
use Rattle.resin_tree.specs.declared.expression.ArrayItem.{ArrayItem}
use Rattle.resin_grammar.specs.declared.sign.Sign.{Sign}
use Rattle.resin_grammar.specs.Places.{Place}

pub data Name : Type 0 where
  -- an expression of this level, to the right of an operator
  Level : ℕ → Name
  -- `e )`
  Bracketed : Name
  -- `e ]`
  Index : Name
  -- `e ]`, or the `]` of `[]`
  IndexOrNext : Name
  -- the items of an array, up to this bracket
  Items : Sign → Name
  -- `e, .. )`
  Arguments : Name
  -- `t, .. )`, behind `isset (`
  Asked : Name
  -- a target, behind `++` or `--`
  Changed : Name
  -- `a : b` or `: b`, behind `c ?`
  Branches : Name
  -- `: b`, behind `c ?` where only that may stand
  Otherwise : Name
  -- `$v.. }`, behind the `{` of a text
  Interpolated : Name

-- what each gives
abbrev pub Value : Name → Type 0
Value (Level n) = Expr
Value Bracketed = Expr
Value Index = Expr
Value IndexOrNext = Option Expr
Value (Items close) = List ArrayItem
Value Arguments = List Expr
Value Asked = List Expr
Value Changed = Place
Value Branches = Option Expr × Expr
Value Otherwise = Expr
Value Interpolated = Expr
