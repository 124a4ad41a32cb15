-- Source texts of a request (this project).
use Rattle.std.specs.Prelude.{ℕ, List}
use Rattle.resin_interp.specs.Under.meaning.Programs.{Prog, give, ◌>>=◌}
use Rattle.resin_interp.specs.Under.meaning_forms.Parts.{◌>>◌}
use Rattle.resin_interp.specs.Under.meaning_forms.Programs.{program}
use Rattle.resin_interp.specs.Under.meaning_forms.Sources.{program_of}

-- runs a source text to its end, its top-level `return` or an `exit`, whichever comes first
abbrev pub run_source : List ℕ → Prog (Unit {0})
run_source src = program_of src >>= λ p. program p >> give tt
