use Rattle.std.proofs.Common.{◌-◌, drop, length}
use Rattle.resin_eval_writes.specs.Under.meaning.Runs.{Leads}
use Rattle.resin_eval_writes.specs.Under.meaning_forms.Programs.{evals}
use Rattle.resin_eval_writes.specs.Under.meaning_forms.Statements.{chosen, from_default}
use Rattle.resin_eval_writes.specs.Under.eval_nested.Running.{at}
use Rattle.resin_eval_statements.proofs.forms.Statements.chosen.Given as goal

abbrev pub invariant-loop-i : goal.invariant-loop-i
invariant-loop-i g l = Leads (chosen (evals l.self.by.now.room) l.v (from_default l.cs) l.cs) (at g.F.Files g.T.Tables l.fn.run) (chosen (evals l.self.by.now.room) l.v (from_default l.cs) (drop l.i l.cs)) (at g.F.Files g.T.Tables l.run)

abbrev pub decreases-loop-i : goal.decreases-loop-i
decreases-loop-i g l = length l.cs - l.i
