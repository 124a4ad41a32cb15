use Rattle.std.proofs.Common.{◌<◌, ℕ, suc}
use Rattle.resin_eval_writes.specs.Under.meaning.Runs.{Leads}
use Rattle.resin_eval_writes.specs.Under.meaning_forms.Programs.{evals}
use Rattle.resin_eval_writes.specs.Under.meaning_forms.Statements.{while_turns}
use Rattle.resin_eval_writes.specs.Under.eval_nested.Running.{at}
use Rattle.resin_eval_statements.proofs.forms.Statements.while_loop.Given as goal

abbrev pub invariant-loop-v : goal.invariant-loop-v
invariant-loop-v g l = (n : ℕ) × (l.run.machine.ticks < n) × Leads (while_turns (suc l.fn.run.machine.ticks) (evals l.self.by.now.room) l.e l.body) (at g.F.Files g.T.Tables l.fn.run) (while_turns n (evals l.self.by.now.room) l.e l.body) (at g.F.Files g.T.Tables l.run)

abbrev pub decreases-loop-v : goal.decreases-loop-v
decreases-loop-v g l = l.run.machine.ticks
