-- Two sides whose policies are asked about each other.
use Rattle.std.specs.Prelude.{ℕ, List}
use Rattle.resin_eval_nested.specs.Under.label.Sets.{NumberSet, empty}
use Rattle.resin_eval_nested.specs.Under.meaning.Programs.{Prog, ◌>>=◌}
use Rattle.resin_eval_nested.specs.Under.meaning_forms.Parts.{Evals}
use Rattle.resin_eval_nested.specs.Under.meaning_forms.Merges.{ask_merges}

-- each policy of the first answers about those of the second, and then each of the second about those of the first
abbrev pub each_asked : Evals → List ℕ → List ℕ → Prog NumberSet
each_asked ev a b = ask_merges ev b a empty >>= ask_merges ev a b
