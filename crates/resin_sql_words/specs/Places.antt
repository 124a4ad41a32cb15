-- Bytes with their offsets.
use Rattle.std.specs.Prelude.{ℕ, suc, List, [], ◌∷◌}
use Rattle.resin_sql_words.specs.declared.cursor.Placed.{Placed}

-- the bytes of a text from this offset on
abbrev pub placed : ℕ → List ℕ → List Placed
placed n [] = []
placed n (b ∷ bs) = record { at = n; byte = b } ∷ placed (suc n) bs
