-- What holds of contents where an object tells them (this project).
use Rattle.std.specs.Prelude.{ℕ, List, Option, Some, None, ⊤}
use Rattle.std.specs.Ordering.{nat_cmp}
use Rattle.std.specs.declared.cmp.Ordering.{Ordering}
use Rattle.std.specs.Cmp.Lexicographic.{slice_cmp}

-- a fact on the contents before and after a call; an object that tells its contents goes on to tell them
abbrev pub Told : {S : Type 0} → Option S → Option S → (S → S → Type 0) → Type 0
Told None new P = ⊤
Told (Some s) None P = ⊥
Told (Some s) (Some t) P = P s t

-- the order of paths and of names, by their bytes
abbrev pub byte_order : List ℕ → List ℕ → Ordering
byte_order = slice_cmp nat_cmp
