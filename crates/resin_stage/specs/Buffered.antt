-- What putting a text into a buffer leaves.
use Rattle.std.specs.Prelude.{◌≡◌, ◌<◌, ◌≤◌, List, ◌++◌, length, Result, Ok, Err, ⊤}
use Rattle.resin_scope.specs.Under.lstr.declared.limits.TheConstants.{LONGEST}
use Rattle.resin_scope.specs.Under.lstr.Texts.{Text}
use Rattle.resin_scope.specs.Under.lstr.declared.text.TextFault.{TextFault}
use Rattle.resin_scope.specs.Under.lstr.declared.text.TextFault.TheVariants.{TooLong, Memory}
use Rattle.resin_scope.specs.Pages.{innermost, appended_to_innermost}

-- the text stands behind the other, TooLong where both are too long together; after want of memory the other may be lost
abbrev pub Joined : Text → Text → Result (Unit {0}) TextFault → Text → Type 0
Joined t old (Ok u) new = (new ≡ old ++ t) × (length (old ++ t) ≤ LONGEST)
Joined t old (Err TooLong) new = (new ≡ old) × (LONGEST < length (old ++ t))
Joined t old (Err Memory) new = ⊤

-- the same of the innermost of some buffers; as many stay open
abbrev pub Joins : Text → List Text → Result (Unit {0}) TextFault → List Text → Type 0
Joins t old (Ok u) new = (new ≡ appended_to_innermost t old) × (length (innermost old ++ t) ≤ LONGEST)
Joins t old (Err TooLong) new = (new ≡ old) × (LONGEST < length (innermost old ++ t))
Joins t old (Err Memory) new = length new ≡ length old
