use Rattle.resin_eval_merges.specs.Under.meaning_forms.Functions.{arguments_on}
use Rattle.resin_eval_merges.specs.Under.meaning_forms.Programs.{evals}
use Rattle.resin_eval_merges.specs.Under.meaning.Runs.{Leads}
use Rattle.resin_eval_merges.specs.Under.value.Seen.{trees_of}
use Rattle.std.proofs.Common.{[], drop, ◌≡◌}
use Rattle.resin_eval_merges.specs.Under.eval_nested.Running.{at}
use Rattle.resin_eval_functions.proofs.arguments.Builtins.placed_arguments.Given as goal

abbrev pub invariant-loop-v : goal.invariant-loop-v
invariant-loop-v g l = (l.i ≡ l.v-index) × Leads (arguments_on (evals l.self.by.now.room) l.sig.builtin [] 0 (trees_of l.args)) (at g.F.Files g.T.Tables l.fn.run) (arguments_on (evals l.self.by.now.room) l.sig.builtin (trees_of l.out) l.i (trees_of (drop l.v-index l.args))) (at g.F.Files g.T.Tables l.run)
