-- Laws of shadow texts.
use Rattle.std.specs.Prelude.{◌≡◌, ◌<◌, ◌^◌, ℕ, List, [], length}
use Rattle.resin_shadow.specs.Marks.{Marks, AreMarks}
use Rattle.resin_shadow.specs.Shadows.{Spells, Spells1, Spells2}

-- there is one text of each version
abbrev pub HasOneText : Type 0
HasOneText = (x y : List ℕ) (v : Marks) → (Spells1 x v → Spells1 y v → x ≡ y) × (Spells2 x v → Spells2 y v → x ≡ y)

-- a text spells one list of sets of each length, at most; a text has as many bytes as a number of 64 bits counts
abbrev pub SpellsOne : Type 0
SpellsOne = (x : List ℕ) (v w : Marks) → length x < 2 ^ 64 → AreMarks v → AreMarks w → length v ≡ length w → Spells x v → Spells x w → v ≡ w

-- a text is of one version, unless it is empty
abbrev pub HasOneVersion : Type 0
HasOneVersion = (x : List ℕ) (v w : Marks) → Spells1 x v → Spells2 x w → x ≡ []
