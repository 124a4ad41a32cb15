use Rattle.std.proofs.Common.{drop}
use Rattle.resin_eval_calls.specs.Under.meaning.Runs.{Leads}
use Rattle.resin_eval_calls.specs.Under.meaning_forms.Programs.{evals}
use Rattle.resin_eval_calls.specs.Under.meaning_forms.Expressions.{all_set}
use Rattle.resin_eval_calls.specs.Under.eval_nested.Running.{at}
use Rattle.resin_interp.proofs.run.Interpreter.all_set.Given as goal

abbrev pub invariant-loop-e : goal.invariant-loop-e
invariant-loop-e g l = Leads (all_set (evals l.self.by.now.room) l.es) (at g.F.Files g.T.Tables l.fn.run) (all_set (evals l.self.by.now.room) (drop l.e-index l.es)) (at g.F.Files g.T.Tables l.run)
