use Rattle.std.proofs.Common.{drop}
use Rattle.resin_eval_writes.specs.Under.meaning.Runs.{Leads}
use Rattle.resin_eval_writes.specs.Under.meaning_forms.Programs.{evals}
use Rattle.resin_eval_writes.specs.Under.meaning_forms.Statements.{unset_all}
use Rattle.resin_eval_writes.specs.Under.eval_nested.Running.{at}
use Rattle.resin_eval_statements.proofs.forms.Statements.unset_all.Given as goal

abbrev pub invariant-loop-t : goal.invariant-loop-t
invariant-loop-t g l = Leads (unset_all (evals l.self.by.now.room) l.ts) (at g.F.Files g.T.Tables l.fn.run) (unset_all (evals l.self.by.now.room) (drop l.t-index l.ts)) (at g.F.Files g.T.Tables l.run)
