use Rattle.resin_eval_merges.specs.Under.meaning_forms.Functions.{format_arguments}
use Rattle.resin_eval_merges.specs.Under.meaning_forms.Programs.{evals}
use Rattle.resin_eval_merges.specs.Under.meaning.Runs.{Leads}
use Rattle.resin_eval_merges.specs.Under.value.Seen.{trees_of}
use Rattle.resin_eval_merges.specs.Under.value.Trees.{text}
use Rattle.std.proofs.Common.{[], drop, ◌∷◌, ◌≡◌}
use Rattle.resin_eval_merges.specs.Under.eval_nested.Running.{at}
use Rattle.resin_eval_functions.proofs.arguments.Builtins.behind_format.Given as goal

abbrev pub invariant-loop-v : goal.invariant-loop-v
invariant-loop-v g l = (l.i ≡ l.v-index) × Leads (format_arguments (evals l.self.by.now.room) l.format (text l.format ∷ []) 0 (trees_of l.rest)) (at g.F.Files g.T.Tables l.fn.run) (format_arguments (evals l.self.by.now.room) l.format (trees_of l.out) l.i (trees_of (drop l.v-index l.rest))) (at g.F.Files g.T.Tables l.run)
