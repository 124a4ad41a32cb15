-- Escapes of texts. All the bytes that are written for a byte carry its set (this project).
use Rattle.std.specs.Prelude.{ℕ, ◌/◌, ◌%◌, ◌==◌, ◌||◌, Bool, false, if◌then◌else◌, List, [], ◌∷◌, ◌++◌, codes}
use Rattle.std.specs.Char.{is_ascii_alphanumeric}
use Rattle.std.specs.Fmt.{digit_glyph}
use Rattle.std.specs.List.{flat_map}
use Rattle.percent_encoding.specs.Percent.{percent_encode_byte}
use Rattle.resin_label.specs.Sets.{empty}
use Rattle.resin_lstr.specs.Texts.{Text, carrying}

-- each byte as a rule writes it, with the byte's set
abbrev pub escaped : (ℕ → List ℕ) → Text → Text
escaped rule t = flat_map (λ p. carrying p.1 (rule p.0)) t

-- `&`, `<`, `>`, `"` and `'` as entities; every other byte stays, UTF-8 or not (PHP manual, "htmlspecialchars", with ENT_QUOTES)
abbrev pub html_entity : ℕ → List ℕ
html_entity b =
    if b == 38 then codes "&amp;"
    else if b == 60 then codes "&lt;"
    else if b == 62 then codes "&gt;"
    else if b == 34 then codes "&quot;"
    else if b == 39 then codes "&#039;"
    else b ∷ []

-- a backslash before `'`, `"` and a backslash; NUL becomes a backslash and `0` (PHP manual, "addslashes")
abbrev pub slashed : ℕ → List ℕ
slashed b =
    if b == 0 then 92 ∷ 48 ∷ []
    else if b == 34 || b == 39 || b == 92 then 92 ∷ b ∷ []
    else b ∷ []

-- `'` twice, as SQL writes it inside a literal
abbrev pub doubled_quote : ℕ → List ℕ
doubled_quote b = if b == 39 then 39 ∷ 39 ∷ [] else b ∷ []

-- a text as an SQL literal: between two quotes without policies (this project)
abbrev pub sql_literal : Text → Text
sql_literal t = carrying empty (codes "'") ++ escaped doubled_quote t ++ carrying empty (codes "'")

-- an ASCII letter or digit, `-`, `_` or `.`
abbrev pub stays_in_url : ℕ → Bool
stays_in_url b = is_ascii_alphanumeric b || b == 45 || b == 95 || b == 46

-- a space as `+`, and what doesn't stay as `%` and two upper-case hexadecimal digits (PHP manual, "urlencode")
abbrev pub url_escape : ℕ → List ℕ
url_escape b =
    if stays_in_url b then b ∷ []
    else if b == 32 then codes "+"
    else percent_encode_byte b

-- what doesn't stay as `%` and two upper-case hexadecimal digits; `~` stays too (PHP manual, "rawurlencode"; RFC 3986, "Unreserved Characters")
abbrev pub raw_url_escape : ℕ → List ℕ
raw_url_escape b = if stays_in_url b || b == 126 then b ∷ [] else percent_encode_byte b

-- the two lower-case hexadecimal digits of a byte, the high one first (PHP manual, "bin2hex")
abbrev pub hex_pair : ℕ → List ℕ
hex_pair b = digit_glyph false (b / 16) ∷ digit_glyph false (b % 16) ∷ []
