-- Lines by the places where they end.
use Rattle.std.specs.Prelude.{ℕ, ◌+◌, nat_lt, List}
use Rattle.std.specs.List.{prefix_len}
use Rattle.resin_lex.specs.declared.token.Token.{Token}

-- The line of a token, from 1, where lines end with the bytes at these places, which rise.
abbrev pub line_in : List ℕ → Token → ℕ
line_in ends t = 1 + prefix_len (λ end. nat_lt end t.from) ends
