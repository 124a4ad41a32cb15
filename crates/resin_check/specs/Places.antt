-- Places of a source text, as people count them.
use Rattle.std.specs.Prelude.{◌≡◌, ◌≤◌, ℕ, ◌+◌, ◌==◌, ◌||◌, List, [], ◌∷◌, length, take, if◌then◌else◌}
use Rattle.resin_lex.specs.Lines.{line_of}
use Rattle.resin_check.specs.declared.place.Place.{Place}

-- the column behind a byte that stands in a column: the first where it is an LF or a CR, else the next
abbrev pub next_column : ℕ → ℕ → ℕ
next_column column byte = if byte == 10 || byte == 13 then 1 else column + 1

-- the column behind bytes of which the first stands in a column
abbrev pub column_behind : ℕ → List ℕ → ℕ
column_behind column [] = column
column_behind column (byte ∷ bytes) = column_behind (next_column column byte) bytes

-- The place is that of an offset: where that is within the text, it has its line, and its column in bytes, both from 1.
pub record IsPlace (src : List ℕ) (at : ℕ) (place : Place) : Type 0 where
  pub offset : place.offset ≡ at
  pub line : at ≤ length src → place.line ≡ line_of src at
  pub column : at ≤ length src → place.column ≡ column_behind 1 (take at src)
