use Rattle.std.proofs.Common.{◌<◌, ℕ, suc}
use Rattle.resin_eval_writes.specs.Under.meaning.Runs.{Leads}
use Rattle.resin_eval_writes.specs.Under.meaning_forms.Programs.{evals}
use Rattle.resin_eval_writes.specs.Under.meaning_forms.Statements.{for_turns}
use Rattle.resin_eval_writes.specs.Under.eval_nested.Running.{at}
use Rattle.resin_eval_statements.proofs.forms.Statements.for_loop.Given as goal

abbrev pub invariant-loop-more : goal.invariant-loop-more
invariant-loop-more g l = (n : ℕ) × (l.run.machine.ticks < n) × Leads (for_turns (suc l.fn.run.machine.ticks) (evals l.self.by.now.room) l.tests l.after l.body) (at g.F.Files g.T.Tables l.fn.run) (for_turns n (evals l.self.by.now.room) l.tests l.after l.body) (at g.F.Files g.T.Tables l.run)

abbrev pub decreases-loop-more : goal.decreases-loop-more
decreases-loop-more g l = l.run.machine.ticks
