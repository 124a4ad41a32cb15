use Rattle.std.proofs.Common.{◌-◌, drop, length}
use Rattle.resin_eval_writes.specs.Under.meaning.Runs.{Leads}
use Rattle.resin_eval_writes.specs.Under.meaning_forms.Programs.{evals}
use Rattle.resin_eval_writes.specs.Under.meaning_forms.Statements.{run_cases}
use Rattle.resin_eval_writes.specs.Under.eval_nested.Running.{at}
use Rattle.resin_eval_statements.proofs.forms.Statements.run_cases.Given as goal

abbrev pub invariant-loop-i : goal.invariant-loop-i
invariant-loop-i g l = Leads (run_cases (evals l.self.by.now.room) (drop l.from l.cs)) (at g.F.Files g.T.Tables l.fn.run) (run_cases (evals l.self.by.now.room) (drop l.i l.cs)) (at g.F.Files g.T.Tables l.run)

abbrev pub decreases-loop-i : goal.decreases-loop-i
decreases-loop-i g l = length l.cs - l.i
