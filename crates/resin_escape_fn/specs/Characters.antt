-- Bytes as numbers and numbers as bytes (PHP manual, "chr" and "ord").
use Rattle.std.specs.Prelude.{ℤ, pos, unsigned_abs, [], ◌∷◌}
use Rattle.std.specs.Int.{int_rem_euclid}
use Rattle.resin_label.specs.Sets.{NumberSet, empty}
use Rattle.resin_lstr.specs.Texts.{Text, carrying}

-- the one byte that a number is modulo 256, of a negative number too
abbrev pub character : ℤ → NumberSet → Text
character n s = carrying s (unsigned_abs (int_rem_euclid n (pos 256)) ∷ [])

-- the first byte with its set, 0 without policies where there is none
abbrev pub first_byte : Text → ℤ × NumberSet
first_byte [] = (pos 0, empty)
first_byte (p ∷ t) = (pos p.0, p.1)
