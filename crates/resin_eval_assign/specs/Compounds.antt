-- What is left of a compound assignment once the target's index expressions and the right side are evaluated (PHP manual, "Assignment Operators").
use Rattle.std.specs.Prelude.{ℕ, List}
use Rattle.resin_tree.specs.declared.expression.Combining.{Combining}
use Rattle.resin_eval_merges.specs.Under.value.declared.value.Value.{Value}
use Rattle.resin_eval_merges.specs.Under.meaning.Programs.{Prog, act, ◌>>=◌}
use Rattle.resin_eval_merges.specs.Under.target.declared.path.Path.{Path}
use Rattle.resin_eval_merges.specs.Under.target.Targets.{fetch}
use Rattle.resin_eval_merges.specs.Under.meaning_forms.Parts.{Evals}
use Rattle.resin_eval_merges.specs.Under.meaning_forms.Operators.{combined}
use Rattle.resin_eval_merges.specs.Under.meaning_forms.Assignments.{stored_value}

-- the old value is read, combined with the right side, and the result stored
abbrev pub combined_there : Evals → Combining → List ℕ → Path → Value → Prog Value
combined_there ev op name path y = do
  x ← act (fetch name path)
  v ← combined ev op x y
  stored_value name path v
