-- The tokens of statements and declarations that stand for themselves, one test for each.
use Rattle.std.specs.Prelude.{Bool, true, false}
use Rattle.resin_lex.specs.declared.token.TokenKind.{TokenKind}
use Rattle.resin_lex.specs.declared.token.TokenKind.TheVariants as k
use Rattle.resin_lex.specs.declared.token.Mark.TheVariants as m
use Rattle.resin_scan.specs.declared.keywords.Keyword.TheVariants as word
use Rattle.resin_program_grammar.specs.declared.word.Word.{Word}
use Rattle.resin_program_grammar.specs.declared.word.Word.TheVariants as w

abbrev pub is_semicolon : TokenKind → Bool
is_semicolon (k.Mark m.Semicolon) = true
is_semicolon _ = false

abbrev pub is_left_brace : TokenKind → Bool
is_left_brace (k.Mark m.LeftBrace) = true
is_left_brace _ = false

abbrev pub is_bar : TokenKind → Bool
is_bar (k.Mark m.Bar) = true
is_bar _ = false

abbrev pub is_as : TokenKind → Bool
is_as (k.Keyword word.As) = true
is_as _ = false

abbrev pub is_case : TokenKind → Bool
is_case (k.Keyword word.Case) = true
is_case _ = false

abbrev pub is_catch : TokenKind → Bool
is_catch (k.Keyword word.Catch) = true
is_catch _ = false

abbrev pub is_class : TokenKind → Bool
is_class (k.Keyword word.Class) = true
is_class _ = false

abbrev pub is_default : TokenKind → Bool
is_default (k.Keyword word.Default) = true
is_default _ = false

abbrev pub is_else : TokenKind → Bool
is_else (k.Keyword word.Else) = true
is_else _ = false

abbrev pub is_else_if : TokenKind → Bool
is_else_if (k.Keyword word.ElseIf) = true
is_else_if _ = false

abbrev pub is_end_for : TokenKind → Bool
is_end_for (k.Keyword word.EndFor) = true
is_end_for _ = false

abbrev pub is_end_foreach : TokenKind → Bool
is_end_foreach (k.Keyword word.EndForeach) = true
is_end_foreach _ = false

abbrev pub is_end_if : TokenKind → Bool
is_end_if (k.Keyword word.EndIf) = true
is_end_if _ = false

abbrev pub is_end_while : TokenKind → Bool
is_end_while (k.Keyword word.EndWhile) = true
is_end_while _ = false

abbrev pub is_extends : TokenKind → Bool
is_extends (k.Keyword word.Extends) = true
is_extends _ = false

abbrev pub is_final : TokenKind → Bool
is_final (k.Keyword word.Final) = true
is_final _ = false

abbrev pub is_finally : TokenKind → Bool
is_finally (k.Keyword word.Finally) = true
is_finally _ = false

abbrev pub is_function : TokenKind → Bool
is_function (k.Keyword word.Function) = true
is_function _ = false

abbrev pub is_if : TokenKind → Bool
is_if (k.Keyword word.If) = true
is_if _ = false

abbrev pub is_var : TokenKind → Bool
is_var (k.Keyword word.Var) = true
is_var _ = false

abbrev pub is_while : TokenKind → Bool
is_while (k.Keyword word.While) = true
is_while _ = false

abbrev pub is_word : Word → TokenKind → Bool
is_word w.Semicolon = is_semicolon
is_word w.LeftBrace = is_left_brace
is_word w.Bar = is_bar
is_word w.As = is_as
is_word w.Case = is_case
is_word w.Catch = is_catch
is_word w.Class = is_class
is_word w.Default = is_default
is_word w.Else = is_else
is_word w.ElseIf = is_else_if
is_word w.EndFor = is_end_for
is_word w.EndForeach = is_end_foreach
is_word w.EndIf = is_end_if
is_word w.EndWhile = is_end_while
is_word w.Extends = is_extends
is_word w.Final = is_final
is_word w.Finally = is_finally
is_word w.Function = is_function
is_word w.If = is_if
is_word w.Var = is_var
is_word w.While = is_while
