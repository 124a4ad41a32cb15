-- Lists of rising places, and where the lines of a text end.
use Rattle.std.specs.Prelude.{ℕ, suc, ◌≤◌, List, [], ◌∷◌, if◌then◌else◌}
use Rattle.resin_lex.specs.Lines.{ends_line}

-- each is greater than those before it, and none is below this
abbrev pub RisesFrom : ℕ → List ℕ → Type 0
RisesFrom at [] = Unit {0}
RisesFrom at (x ∷ xs) = (at ≤ x) × RisesFrom (suc x) xs

unfoldable pub Rises : List ℕ → Type 0
Rises xs = RisesFrom 0 xs

-- the places of the bytes with which lines end, in a rest of a text from this place on
abbrev pub ends_from : ℕ → List ℕ → List ℕ
ends_from at [] = []
ends_from at (b ∷ xs) = if ends_line (b ∷ xs) then at ∷ ends_from (suc at) xs else ends_from (suc at) xs
