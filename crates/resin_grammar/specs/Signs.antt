-- The tokens that stand for themselves in the grammar, one test for each.
use Rattle.std.specs.Prelude.{Bool, true, false}
use Rattle.resin_lex.specs.declared.token.TokenKind.{TokenKind}
use Rattle.resin_lex.specs.declared.token.TokenKind.TheVariants as k
use Rattle.resin_lex.specs.declared.token.Mark.TheVariants as m
use Rattle.resin_scan.specs.declared.keywords.Keyword.TheVariants as word
use Rattle.resin_grammar.specs.declared.sign.Sign.{Sign}
use Rattle.resin_grammar.specs.declared.sign.Sign.TheVariants as s

abbrev pub is_left_round : TokenKind → Bool
is_left_round (k.Mark m.LeftRound) = true
is_left_round _ = false

abbrev pub is_right_round : TokenKind → Bool
is_right_round (k.Mark m.RightRound) = true
is_right_round _ = false

abbrev pub is_left_square : TokenKind → Bool
is_left_square (k.Mark m.LeftSquare) = true
is_left_square _ = false

abbrev pub is_right_square : TokenKind → Bool
is_right_square (k.Mark m.RightSquare) = true
is_right_square _ = false

abbrev pub is_right_brace : TokenKind → Bool
is_right_brace (k.Mark m.RightBrace) = true
is_right_brace _ = false

abbrev pub is_comma : TokenKind → Bool
is_comma (k.Mark m.Comma) = true
is_comma _ = false

abbrev pub is_colon : TokenKind → Bool
is_colon (k.Mark m.Colon) = true
is_colon _ = false

abbrev pub is_double_colon : TokenKind → Bool
is_double_colon (k.Mark m.DoubleColon) = true
is_double_colon _ = false

abbrev pub is_question : TokenKind → Bool
is_question (k.Mark m.Question) = true
is_question _ = false

abbrev pub is_coalesce : TokenKind → Bool
is_coalesce (k.Mark m.Coalesce) = true
is_coalesce _ = false

abbrev pub is_arrow : TokenKind → Bool
is_arrow (k.Mark m.Arrow) = true
is_arrow _ = false

abbrev pub is_fat_arrow : TokenKind → Bool
is_fat_arrow (k.Mark m.FatArrow) = true
is_fat_arrow _ = false

abbrev pub is_assign : TokenKind → Bool
is_assign (k.Mark m.Assign) = true
is_assign _ = false

abbrev pub is_not : TokenKind → Bool
is_not (k.Mark m.Not) = true
is_not _ = false

abbrev pub is_instance_of : TokenKind → Bool
is_instance_of (k.Keyword word.InstanceOf) = true
is_instance_of _ = false

-- the closing quote of a text with interpolation
abbrev pub is_text_close : TokenKind → Bool
is_text_close k.TextClose = true
is_text_close _ = false

abbrev pub is_sign : Sign → TokenKind → Bool
is_sign s.LeftRound = is_left_round
is_sign s.RightRound = is_right_round
is_sign s.LeftSquare = is_left_square
is_sign s.RightSquare = is_right_square
is_sign s.RightBrace = is_right_brace
is_sign s.Comma = is_comma
is_sign s.Colon = is_colon
is_sign s.DoubleColon = is_double_colon
is_sign s.Question = is_question
is_sign s.Coalesce = is_coalesce
is_sign s.Arrow = is_arrow
is_sign s.FatArrow = is_fat_arrow
is_sign s.Assign = is_assign
is_sign s.Not = is_not
is_sign s.InstanceOf = is_instance_of
is_sign s.TextClose = is_text_close
