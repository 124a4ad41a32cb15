-- The fields of a line that are left.
use Rattle.std.specs.Prelude.{ℕ, Bool, true, false, List, [], ◌∷◌, Option, Some, None}
use denote.Ref.{Bor}
use Rattle.resin_journal_file.specs.Reading.{fields_of}

-- the fields of what is left of a line
abbrev pub fields_left : Option (Bor (List ℕ)) → List (List ℕ)
fields_left None = []
fields_left (Some left) = fields_of left.now

abbrev pub is_none : List (List ℕ) → Bool
is_none [] = true
is_none (f ∷ fs) = false
