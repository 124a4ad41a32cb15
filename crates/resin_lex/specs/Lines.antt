-- Lines of a text. LF, CRLF and a lone CR each end one line.
use Rattle.std.specs.Prelude.{ℕ, zero, suc, ◌+◌, Bool, not, ◌&&◌, ◌||◌, ◌==◌, List, [], ◌∷◌, if◌then◌else◌}
use Rattle.resin_scan.specs.Bytes.{byte}
use Rattle.resin_lex.specs.declared.token.Token.{Token}

-- a line ends with the first byte: an LF, or a CR that no LF follows
abbrev pub ends_line : List ℕ → Bool
ends_line xs = byte xs 0 == 10 || (byte xs 0 == 13 && not (byte xs 1 == 10))

-- how many lines end before a place
abbrev pub line_ends : ℕ → List ℕ → ℕ
line_ends zero xs = 0
line_ends (suc n) [] = 0
line_ends (suc n) (b ∷ xs) = (if ends_line (b ∷ xs) then 1 else 0) + line_ends n xs

-- the line of a place of a text, from 1
abbrev pub line_of : List ℕ → ℕ → ℕ
line_of src place = 1 + line_ends place src

-- the line of a token's first byte
abbrev pub line_of_token : List ℕ → Token → ℕ
line_of_token src token = line_of src token.from
