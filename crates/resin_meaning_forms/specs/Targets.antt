-- The postfixes of a target: its index expressions are evaluated from the left before all else. What is read, stored and unset there stands in
-- resin_target.
use Rattle.std.specs.Prelude.{List, [], ◌∷◌}
use Rattle.resin_target.specs.Under.tree.declared.expression.PathStep.{PathStep, PathStep-F, out-PathStep}
use Rattle.resin_meaning_tables.specs.Under.meaning.Programs.{Prog, give, ◌>>=◌}
use Rattle.resin_target.specs.declared.path.Index.TheVariants.{At, Next}
use Rattle.resin_target.specs.declared.path.Path.{Path}
use Rattle.resin_target.specs.Paths.{no_postfix, with_index, with_property}
use Rattle.resin_meaning_forms.specs.Parts.{Evals}

-- one more postfix
abbrev pub step : Evals → Path → PathStep → Prog Path
step ev path s = elim (out-PathStep s) [
  | PathStep-F.«PathStep::Index» e ↦ ev.expr e >>= λ v. give (with_index (At v) path)
  | PathStep-F.Append ↦ give (with_index Next path)
  | PathStep-F.«PathStep::Property» p ↦ give (with_property p path)
]

-- these postfixes, and those behind them
abbrev pub steps_on : Evals → Path → List PathStep → Prog Path
steps_on ev path [] = give path
steps_on ev path (s ∷ ss) = step ev path s >>= λ further. steps_on ev further ss

abbrev pub steps : Evals → List PathStep → Prog Path
steps ev ss = steps_on ev no_postfix ss
