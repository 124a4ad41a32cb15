-- Operators and brackets: those that occur in the language's tables, each the longest that stands at its place.
use Rattle.std.specs.Prelude.{ℕ, Bool, false, ◌||◌, ◌==◌, List, [], ◌∷◌, codes, is_some}
use Rattle.resin_scan.specs.Bytes.{byte, is_digit}
use Rattle.resin_lex.specs.Casts.{cast_behind}
use Rattle.resin_lex.specs.declared.modes.Act.{Act}
use Rattle.resin_lex.specs.declared.modes.Act.TheVariants.{Stay, Enter, Leave}
use Rattle.resin_lex.specs.declared.modes.Open.TheVariants.{Brace}
use Rattle.resin_lex.specs.declared.token.Mark.{Mark}
use Rattle.resin_lex.specs.declared.token.Mark.TheVariants as m

-- the bytes of a mark
abbrev pub spelling : Mark → List ℕ
spelling m.Semicolon = codes ";"
spelling m.Comma = codes ","
spelling m.LeftRound = codes "("
spelling m.RightRound = codes ")"
spelling m.LeftSquare = codes "["
spelling m.RightSquare = codes "]"
spelling m.LeftBrace = codes "{"
spelling m.RightBrace = codes "}"
spelling m.Colon = codes ":"
spelling m.DoubleColon = codes "::"
spelling m.Question = codes "?"
spelling m.Coalesce = codes "??"
spelling m.CoalesceAssign = codes "??="
spelling m.Arrow = codes "->"
spelling m.FatArrow = codes "=>"
spelling m.Assign = codes "="
spelling m.Equal = codes "=="
spelling m.Identical = codes "==="
spelling m.Not = codes "!"
spelling m.NotEqual = codes "!="
spelling m.NotIdentical = codes "!=="
spelling m.Less = codes "<"
spelling m.LessOrEqual = codes "<="
spelling m.Compare = codes "<=>"
spelling m.LessGreater = codes "<>"
spelling m.Greater = codes ">"
spelling m.GreaterOrEqual = codes ">="
spelling m.Plus = codes "+"
spelling m.Increment = codes "++"
spelling m.PlusAssign = codes "+="
spelling m.Minus = codes "-"
spelling m.Decrement = codes "--"
spelling m.MinusAssign = codes "-="
spelling m.Star = codes "*"
spelling m.StarAssign = codes "*="
spelling m.Slash = codes "/"
spelling m.SlashAssign = codes "/="
spelling m.Percent = codes "%"
spelling m.PercentAssign = codes "%="
spelling m.Dot = codes "."
spelling m.DotAssign = codes ".="
spelling m.And = codes "&&"
spelling m.Or = codes "||"
spelling m.Bar = codes "|"

-- whether the next byte is one of these
abbrev pub next_is : List ℕ → List ℕ → Bool
next_is [] rest = false
next_is (b ∷ []) rest = byte rest 0 == b
next_is (b ∷ c ∷ bs) rest = byte rest 0 == b || next_is (c ∷ bs) rest

-- Whether a mark would go on behind it: to a longer one, a comment, a closing tag, a float form or a cast.
abbrev pub goes_on : Mark → List ℕ → Bool
goes_on m.LeftRound rest = is_some (cast_behind rest)
goes_on m.Dot rest = next_is (codes "=") rest || is_digit (byte rest 0)
goes_on m.Colon rest = next_is (codes ":") rest
goes_on m.Question rest = next_is (codes "?>") rest
goes_on m.Coalesce rest = next_is (codes "=") rest
goes_on m.Assign rest = next_is (codes "=>") rest
goes_on m.Equal rest = next_is (codes "=") rest
goes_on m.Not rest = next_is (codes "=") rest
goes_on m.NotEqual rest = next_is (codes "=") rest
goes_on m.Less rest = next_is (codes "=>") rest
goes_on m.LessOrEqual rest = next_is (codes ">") rest
goes_on m.Greater rest = next_is (codes "=") rest
goes_on m.Plus rest = next_is (codes "+=") rest
goes_on m.Minus rest = next_is (codes "-=>") rest
goes_on m.Star rest = next_is (codes "=") rest
goes_on m.Slash rest = next_is (codes "/*=") rest
goes_on m.Percent rest = next_is (codes "=") rest
goes_on m.Bar rest = next_is (codes "|") rest
goes_on _ rest = false

-- a brace of code opens or closes something for the lexer too
abbrev pub act_of : Mark → Act
act_of m.LeftBrace = Enter Brace
act_of m.RightBrace = Leave
act_of _ = Stay
