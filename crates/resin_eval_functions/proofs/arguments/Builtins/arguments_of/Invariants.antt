use Rattle.resin_eval_merges.specs.Under.meaning_forms.Functions.{arguments_of, arguments_of_on}
use Rattle.resin_eval_merges.specs.Under.meaning_forms.Programs.{evals}
use Rattle.resin_eval_merges.specs.Under.meaning.Runs.{Leads}
use Rattle.resin_eval_merges.specs.Under.value.Seen.{trees_of}
use Rattle.std.proofs.Common.{drop, length, ◌-◌}
use Rattle.resin_eval_merges.specs.Under.eval_nested.Running.{at}
use Rattle.resin_eval_functions.proofs.arguments.Builtins.arguments_of.Given as goal

abbrev pub invariant-loop-i : goal.invariant-loop-i
invariant-loop-i g l = Leads (arguments_of (evals l.self.by.now.room) l.kinds (trees_of l.args)) (at g.F.Files g.T.Tables l.fn.run) (arguments_of_on (evals l.self.by.now.room) (trees_of l.out) (drop l.i l.kinds) (trees_of (drop l.i l.args))) (at g.F.Files g.T.Tables l.run)

abbrev pub decreases-loop-i : goal.decreases-loop-i
decreases-loop-i g l = length l.kinds - l.i
