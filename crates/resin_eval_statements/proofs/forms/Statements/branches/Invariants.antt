use Rattle.std.proofs.Common.{drop}
use Rattle.resin_eval_writes.specs.Under.meaning.Runs.{Leads}
use Rattle.resin_eval_writes.specs.Under.meaning_forms.Programs.{evals}
use Rattle.resin_eval_writes.specs.Under.meaning_forms.Statements.{branches}
use Rattle.resin_eval_writes.specs.Under.eval_nested.Running.{at}
use Rattle.resin_eval_statements.proofs.forms.Statements.branches.Given as goal

abbrev pub invariant-loop-b : goal.invariant-loop-b
invariant-loop-b g l = Leads (branches (evals l.self.by.now.room) l.other l.bs) (at g.F.Files g.T.Tables l.fn.run) (branches (evals l.self.by.now.room) l.other (drop l.b-index l.bs)) (at g.F.Files g.T.Tables l.run)
