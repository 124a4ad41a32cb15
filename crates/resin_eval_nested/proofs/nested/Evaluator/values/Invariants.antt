use Rattle.std.proofs.Common.{drop}
use Rattle.resin_step_objects.specs.Under.meaning.Runs.{Leads}
use Rattle.resin_step_objects.specs.Under.meaning_forms.Programs.{evals}
use Rattle.resin_step_objects.specs.Under.meaning_forms.Calls.{values, values_on}
use Rattle.resin_eval_nested.specs.Running.{at}
use Rattle.resin_eval_nested.proofs.nested.Evaluator.values.Given as goal

abbrev pub invariant-loop-e : goal.invariant-loop-e
invariant-loop-e g l = Leads (values (evals l.self.room) l.es) (at g.F.Files g.T.Tables l.fn.run) (values_on (evals l.self.room) l.vs (drop l.e-index l.es)) (at g.F.Files g.T.Tables l.run)
