-- Line ends in HTML (PHP manual, "nl2br").
use Rattle.std.specs.Prelude.{ℕ, ◌==◌, ◌&&◌, ◌||◌, Bool, if◌then◌else◌, List, [], ◌∷◌, ◌++◌, codes}
use Rattle.resin_label.specs.Sets.{NumberSet}
use Rattle.resin_lstr.specs.Texts.{Text, carrying}

-- LF or CR
abbrev pub is_line_byte : ℕ → Bool
is_line_byte b = b == 10 || b == 13

-- CRLF or LFCR, which end one line
abbrev pub is_line_pair : ℕ → ℕ → Bool
is_line_pair b c = (b == 13 && c == 10) || (b == 10 && c == 13)

-- how many bytes end the line at whose end a text begins: two of a pair, else one
abbrev pub break_len : List ℕ → ℕ
break_len [] = 1
break_len (b ∷ []) = 1
break_len (b ∷ c ∷ s) = if is_line_pair b c then 2 else 1

abbrev pub break_tag : NumberSet → Text
break_tag s = carrying s (codes "<br />")

-- `<br />` before each CRLF, LFCR, LF and CR, read from the left, with the set of its first byte
abbrev pub with_breaks : Text → Text
with_breaks [] = []
with_breaks (p ∷ []) = if is_line_byte p.0 then break_tag p.1 ++ p ∷ [] else p ∷ []
with_breaks (p ∷ q ∷ t) =
    if is_line_byte p.0 then break_tag p.1 ++ p ∷ (if is_line_pair p.0 q.0 then q ∷ with_breaks t else with_breaks (q ∷ t))
    else p ∷ with_breaks (q ∷ t)
