-- The answer of the reader of one expression among the tokens of a text.
use Rattle.std.specs.Prelude.{◌≡◌, ◌≤◌, ℕ, suc, ◌-◌, List, [], ◌∷◌, length, drop, Result, Ok, Err}
use Rattle.resin_lex.specs.declared.token.Token.{Token}
use Rattle.resin_lex.specs.declared.token.TokenList.{TokenList}
use Rattle.resin_lex.specs.declared.token.ParseFault.{ParseFault}
use Rattle.resin_lex.specs.declared.token.ParseFault.TheVariants as fault
use Rattle.resin_form.specs.Meaning.{IsRead, IsRefused, IsTooDeep}
use Rattle.resin_tree.specs.declared.expression.Expr.{Expr}
use Rattle.resin_grammar.specs.Expressions.{rules, expression}
use Rattle.resin_grammar.specs.Reading.{is_low}

-- the place of the first of these tokens, or the end of the text
abbrev pub place_of : ℕ → List Token → ℕ
place_of end [] = end
place_of end (t ∷ ts) = t.from

-- where so many constructs may still open: the tree of the longest front and the index of the token behind it (that of the
-- end, the number of tokens, where none is left); or the
-- place of the token that cannot go on; or that of the token before what is left, which opens a construct too many
abbrev pub IsAnswer : TokenList → ℕ → ℕ → Result (Expr × ℕ) ParseFault → Type 0
IsAnswer t at depth (Ok (e, next)) = (next ≤ length t.tokens) × IsRead rules expression is_low (suc depth) (drop at t.tokens) e (drop next t.tokens)
IsAnswer t at depth (Err (fault.Syntax place)) =
    (rest : List Token) × IsRefused rules expression is_low (suc depth) (drop at t.tokens) rest × (place ≡ place_of t.end rest)
IsAnswer t at depth (Err (fault.TooDeep place)) =
    (rest : List Token) × IsTooDeep rules expression is_low (suc depth) (drop at t.tokens) rest
    × (place ≡ place_of t.end (drop (length t.tokens - length rest - 1) t.tokens))
IsAnswer t at depth (Err fault.Memory) = Unit {0}
