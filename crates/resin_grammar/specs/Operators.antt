-- The operators of the language: how tightly each binds, and what tree it makes. From the PHP manual's table of
-- operators, in this project's profile. The levels are numbered from the tightest:
--
--    1  operands: literals, variables, arrays, calls, brackets; with `[e]`, `->p`, `->m(..)`, `++` and `--` behind them
--    2  - + ++ -- (int) (string) (bool), before their operand
--    3  instanceof
--    4  !
--    5  * / %          to the left
--    6  + -            to the left
--    7  .              to the left
--    8  < <= > >=      no two in a row
--    9  == != <> === !== <=>   no two in a row
--   10  &&             to the left
--   11  ||             to the left
--   12  ??             to the right
--   13  c ? a : b      no two in a row;  c ?: b  to the left
--   14  include and its kin
--
-- An assignment is an operand: a target before `=`, and all that its right side can be.
use Rattle.std.specs.Prelude.{ℕ, Bool, not, ◌||◌, ◌==◌, List, Option, Some, None, if◌then◌else◌, codes}
use Rattle.std.specs.Str.{bytes_eq}
use Rattle.resin_scan.specs.Words.{spells}
use Rattle.resin_lex.specs.declared.token.TokenKind.{TokenKind}
use Rattle.resin_lex.specs.declared.token.TokenKind.TheVariants as k
use Rattle.resin_lex.specs.declared.token.Mark.TheVariants as m
use Rattle.resin_scan.specs.declared.keywords.Keyword.TheVariants as word
use Rattle.resin_scan.specs.declared.words.Cast.TheVariants as cast
use Rattle.resin_tree.specs.declared.expression.Combining.TheVariants as by
use Rattle.resin_tree.specs.declared.expression.Comparison.TheVariants as compare
use Rattle.resin_tree.specs.declared.expression.Unary.TheVariants as unary
use Rattle.resin_tree.specs.declared.expression.Import.{Import}
use Rattle.resin_tree.specs.declared.expression.Import.TheVariants as import
use Rattle.resin_tree.specs.declared.expression.ConstantName.{ConstantName}
use Rattle.resin_tree.specs.declared.expression.ConstantName.TheVariants as constant
use Rattle.resin_grammar.specs.declared.operators.Operator.{Operator}
use Rattle.resin_grammar.specs.declared.operators.Operator.TheVariants.{Combine, Compare, And, Or}
use Rattle.resin_grammar.specs.declared.operators.Prefix.{Prefix}
use Rattle.resin_grammar.specs.declared.operators.Prefix.TheVariants as prefix
use Rattle.resin_grammar.specs.declared.operators.Writing.{Writing}
use Rattle.resin_grammar.specs.declared.operators.Writing.TheVariants as write

-- the level of a binary operator, 0 for another token
abbrev pub level_of : TokenKind → ℕ
level_of (k.Mark m.Star) = 5
level_of (k.Mark m.Slash) = 5
level_of (k.Mark m.Percent) = 5
level_of (k.Mark m.Plus) = 6
level_of (k.Mark m.Minus) = 6
level_of (k.Mark m.Dot) = 7
level_of (k.Mark m.Less) = 8
level_of (k.Mark m.LessOrEqual) = 8
level_of (k.Mark m.Greater) = 8
level_of (k.Mark m.GreaterOrEqual) = 8
level_of (k.Mark m.Equal) = 9
level_of (k.Mark m.NotEqual) = 9
level_of (k.Mark m.LessGreater) = 9
level_of (k.Mark m.Identical) = 9
level_of (k.Mark m.NotIdentical) = 9
level_of (k.Mark m.Compare) = 9
level_of (k.Mark m.And) = 10
level_of (k.Mark m.Or) = 11
level_of _ = 0

-- whether operators of a level stand in a row, grouped to the left
abbrev pub groups : ℕ → Bool
groups level = not (level == 8 || level == 9)

-- the binary operator that a token stands for
abbrev pub operator_of : TokenKind → Operator
operator_of (k.Mark m.Star) = Combine by.Multiply
operator_of (k.Mark m.Slash) = Combine by.Divide
operator_of (k.Mark m.Percent) = Combine by.Remainder
operator_of (k.Mark m.Plus) = Combine by.Add
operator_of (k.Mark m.Minus) = Combine by.Subtract
operator_of (k.Mark m.Dot) = Combine by.Concat
operator_of (k.Mark m.Less) = Compare compare.Less
operator_of (k.Mark m.LessOrEqual) = Compare compare.LessOrEqual
operator_of (k.Mark m.Greater) = Compare compare.Greater
operator_of (k.Mark m.GreaterOrEqual) = Compare compare.GreaterOrEqual
operator_of (k.Mark m.Equal) = Compare compare.Equal
operator_of (k.Mark m.NotEqual) = Compare compare.NotEqual
operator_of (k.Mark m.LessGreater) = Compare compare.NotEqual
operator_of (k.Mark m.Identical) = Compare compare.Identical
operator_of (k.Mark m.NotIdentical) = Compare compare.NotIdentical
operator_of (k.Mark m.Compare) = Compare compare.Compare
operator_of (k.Mark m.And) = And
operator_of _ = Or

-- the operator of level 2 that a token stands for
abbrev pub prefix_of : TokenKind → Option Prefix
prefix_of (k.Mark m.Minus) = Some (prefix.Unary unary.Minus)
prefix_of (k.Mark m.Plus) = Some (prefix.Unary unary.Plus)
prefix_of (k.Mark m.Increment) = Some prefix.Increment
prefix_of (k.Mark m.Decrement) = Some prefix.Decrement
prefix_of (k.Cast cast.Int) = Some (prefix.Unary unary.ToInt)
prefix_of (k.Cast cast.Text) = Some (prefix.Unary unary.ToText)
prefix_of (k.Cast cast.Bool) = Some (prefix.Unary unary.ToBool)
prefix_of _ = None

-- what an operator behind a target does to it
abbrev pub writing_of : TokenKind → Option Writing
writing_of (k.Mark m.Assign) = Some write.Assign
writing_of (k.Mark m.PlusAssign) = Some (write.Compound by.Add)
writing_of (k.Mark m.MinusAssign) = Some (write.Compound by.Subtract)
writing_of (k.Mark m.StarAssign) = Some (write.Compound by.Multiply)
writing_of (k.Mark m.SlashAssign) = Some (write.Compound by.Divide)
writing_of (k.Mark m.PercentAssign) = Some (write.Compound by.Remainder)
writing_of (k.Mark m.DotAssign) = Some (write.Compound by.Concat)
writing_of (k.Mark m.CoalesceAssign) = Some write.CoalesceAssign
writing_of (k.Mark m.Increment) = Some write.Increment
writing_of (k.Mark m.Decrement) = Some write.Decrement
writing_of _ = None

-- the form of import that a word begins
abbrev pub import_of : TokenKind → Option Import
import_of (k.Keyword word.Include) = Some import.Include
import_of (k.Keyword word.IncludeOnce) = Some import.IncludeOnce
import_of (k.Keyword word.Require) = Some import.Require
import_of (k.Keyword word.RequireOnce) = Some import.RequireOnce
import_of _ = None

-- the constant that a name is: the first three in any case
unfoldable pub constant_of : List ℕ → Option ConstantName
constant_of xs =
    if spells (codes "null") xs then Some constant.Null else
    (if spells (codes "true") xs then Some constant.True else
    (if spells (codes "false") xs then Some constant.False else
    (if bytes_eq xs (codes "PHP_INT_MAX") then Some constant.IntMax else
    (if bytes_eq xs (codes "PHP_INT_MIN") then Some constant.IntMin else
    (if bytes_eq xs (codes "PHP_EOL") then Some constant.EndOfLine else
    (if bytes_eq xs (codes "FILE_APPEND") then Some constant.FileAppend else
    (if bytes_eq xs (codes "STR_PAD_LEFT") then Some constant.PadLeft else
    (if bytes_eq xs (codes "STR_PAD_RIGHT") then Some constant.PadRight else None))))))))
