-- How the runs of a table end.
use Rattle.std.specs.Prelude.{◌≡◌, ◌≢◌, Bool, true, false, List, [], ◌∷◌, ◌++◌}
use Rattle.resin_shadow.specs.declared.table.FrozenRun.{FrozenRun}
use Rattle.resin_shadow.specs.Marks.{TextSet}

-- the last run isn't of this set
abbrev pub EndsApart : TextSet → List FrozenRun → Type 0
EndsApart s [] = Unit {0}
EndsApart s (r ∷ []) = r.set ≢ s
EndsApart s (r ∷ q ∷ rs) = EndsApart s (q ∷ rs)

-- the last run is of this set
abbrev pub EndsWith : TextSet → List FrozenRun → Type 0
EndsWith s rs = (front : List FrozenRun) × (r : FrozenRun) × (rs ≡ front ++ r ∷ []) × (r.set ≡ s)

-- whether it is
abbrev pub Ends : TextSet → List FrozenRun → Bool → Type 0
Ends s rs true = EndsWith s rs
Ends s rs false = EndsApart s rs
