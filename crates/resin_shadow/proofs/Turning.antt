-- How loops that read end.
use Rattle.std.proofs.Common.{◌≡◌, ℕ, ◌<◌, List, Err, sym, ◌∙◌}
use Rattle.resin_frozen.specs.Reading.{Read}
use Rattle.resin_frozen.specs.Reads.{Reads}
use Rattle.resin_frozen.specs.declared.stop.Stop.{Stop}
use Rattle.resin_frozen.specs.declared.stop.Stop.TheVariants.{Form, Memory}
use Rattle.resin_shadow.specs.Marks.{TextSet}
use Rattle.resin_shadow.specs.Readers.{times, Turns, ReadsKinds}
use Rattle.resin_shadow.proofs.Loops.{fails}

pub turning_fails : {A : Type 0} (step : A → Read A) (n count : ℕ) (a b c d : A) (xs start r s : List ℕ) (stop : Stop) → 0 < n → times step n a xs ≡ times step count b start
    → Turns {U = Unit {0}} (step a xs) (Err stop) c r → Turns {U = Unit {0}} (times step count b start) (Err stop) d s
turning_fails step n count a b c d xs start r s Form lt e h = sym e ∙ fails step n a xs lt h
turning_fails step n count a b c d xs start r s Memory lt e h = tt

pub reading_fails : {A : Type 0} (step : A → Read A) (n count : ℕ) (a b c : A) (xs start r s : List ℕ) (stop : Stop) → 0 < n → times step n a xs ≡ times step count b start
    → Turns {U = Unit {0}} (step a xs) (Err stop) c r → Reads {A = A} (times step count b start) (Err stop) s
reading_fails step n count a b c xs start r s Form lt e h = sym e ∙ fails step n a xs lt h
reading_fails step n count a b c xs start r s Memory lt e h = tt

pub kinds_fail : (E : Type 0) (step : List TextSet → Read (List TextSet)) (n count : ℕ) (a b c : List TextSet) (xs start r s : List ℕ) (stop : Stop) → 0 < n → times step n a xs ≡ times step count b start
    → Turns {U = Unit {0}} (step a xs) (Err stop) c r → ReadsKinds {E = E} (times step count b start) (Err stop) s
kinds_fail E step n count a b c xs start r s Form lt e h = sym e ∙ fails step n a xs lt h
kinds_fail E step n count a b c xs start r s Memory lt e h = tt
