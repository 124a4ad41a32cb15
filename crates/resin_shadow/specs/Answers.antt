-- What reading a shadow text answers.
use Rattle.std.specs.Prelude.{◌≡◌, ◌≢◌, ℕ, List, length, Option, Some, None}
use Rattle.resin_shadow.specs.Marks.{Marks, AreMarks}
use Rattle.resin_shadow.specs.Shadows.{Spells}

-- the sets of so many bytes that the text spells, or that it spells none
abbrev pub Decodes : ℕ → List ℕ → Option Marks → Type 0
Decodes len x (Some v) = Spells x v × (length v ≡ len)
Decodes len x None = (v : Marks) → AreMarks v → Spells x v → length v ≡ len → ⊥

-- the marks, where the text is the shadow
abbrev pub Kept : Marks → List ℕ → List ℕ → Option Marks → Type 0
Kept v text shadow (Some w) = (w ≡ v) × (text ≡ shadow)
Kept v text shadow None = text ≢ shadow
