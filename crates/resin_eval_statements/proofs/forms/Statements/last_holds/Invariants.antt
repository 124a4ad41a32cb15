use Rattle.std.proofs.Common.{drop, true}
use Rattle.resin_eval_writes.specs.Under.meaning.Runs.{Leads}
use Rattle.resin_eval_writes.specs.Under.meaning_forms.Programs.{evals}
use Rattle.resin_eval_writes.specs.Under.meaning_forms.Statements.{last_holds}
use Rattle.resin_eval_writes.specs.Under.eval_nested.Running.{at}
use Rattle.resin_eval_statements.proofs.forms.Statements.last_holds.Given as goal

abbrev pub invariant-loop-e : goal.invariant-loop-e
invariant-loop-e g l = Leads (last_holds (evals l.self.by.now.room) true l.es) (at g.F.Files g.T.Tables l.fn.run) (last_holds (evals l.self.by.now.room) l.so_far (drop l.e-index l.es)) (at g.F.Files g.T.Tables l.run)
