-- What a kept program is.
use Rattle.std.specs.Prelude.{ℕ, List, Contains, Ok}
use Rattle.resin_interp.specs.Under.meaning.Runs.{Does, World}
use Rattle.resin_interp.specs.Under.meaning_forms.Sources.{program_of}
use Rattle.resin_interp.specs.Under.tree.declared.declaration.Program.{Program}

-- a source text means this program, whatever runs it
abbrev pub Means : List ℕ → Program → Type 0
Means src p = (w : World) → Does (program_of src) w (Ok p) w

-- each text means the program that stands beside it
abbrev pub AreMeant : List (List ℕ × Program) → Type 0
AreMeant kept = (e : List ℕ × Program) → Contains kept e → Means e.0 e.1
