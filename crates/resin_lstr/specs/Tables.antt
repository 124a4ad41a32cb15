-- Tables from bytes to the bytes that replace them: a list of 256 lists of bytes.
use Rattle.std.specs.Prelude.{ℕ, ◌+◌, List, [], ◌∷◌, map, slice_index_or, Option, Some, None}
use Rattle.std.specs.List.{flat_map, range_with_len}
use Rattle.resin_bytes.specs.declared.byte_list.Bytes.{Bytes}
use Rattle.resin_lstr.specs.Texts.{Text, carrying}

-- the table that leaves each byte as it is
unfoldable pub identity : List (List ℕ)
identity = map (λ b. b ∷ []) (range_with_len 0 256)

-- what replaces a byte
abbrev pub replacement : List (List ℕ) → ℕ → List ℕ
replacement table b = slice_index_or table b []

-- each byte as its bytes in the table, all with its set
abbrev pub replaced : List (List ℕ) → Text → Text
replaced table t = flat_map (λ p. carrying p.1 (replacement table p.0)) t

-- the rows that are kept, from a byte on: a byte without a row stays as it is
abbrev pub rows_from : ℕ → List (Option Bytes) → List (List ℕ)
rows_from b [] = []
rows_from b (None ∷ rows) = (b ∷ []) ∷ rows_from (b + 1) rows
rows_from b (Some bytes ∷ rows) = bytes ∷ rows_from (b + 1) rows
