use Rattle.std.proofs.Common.{drop}
use Rattle.resin_eval_writes.specs.Under.meaning.Runs.{Leads}
use Rattle.resin_eval_writes.specs.Under.meaning_forms.Programs.{evals}
use Rattle.resin_eval_writes.specs.Under.meaning_forms.Statements.{echo_all}
use Rattle.resin_eval_writes.specs.Under.eval_nested.Running.{at}
use Rattle.resin_eval_statements.proofs.forms.Statements.echo_all.Given as goal

abbrev pub invariant-loop-e : goal.invariant-loop-e
invariant-loop-e g l = Leads (echo_all (evals l.self.by.now.room) l.es) (at g.F.Files g.T.Tables l.fn.run) (echo_all (evals l.self.by.now.room) (drop l.e-index l.es)) (at g.F.Files g.T.Tables l.run)
