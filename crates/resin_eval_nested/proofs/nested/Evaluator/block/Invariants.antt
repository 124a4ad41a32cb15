use Rattle.resin_step_objects.specs.Under.meaning_forms.Invoke.{block}
use Rattle.resin_step_objects.specs.Under.meaning_forms.Programs.{evals}
use Rattle.resin_step_objects.specs.Under.meaning.Runs.{Leads}
use Rattle.std.proofs.Common.{drop}
use Rattle.resin_eval_nested.specs.Running.{at}
use Rattle.resin_eval_nested.proofs.nested.Evaluator.block.Given as goal

abbrev pub invariant-loop-s : goal.invariant-loop-s
invariant-loop-s g l = Leads (block (evals l.self.room) l.ss) (at g.F.Files g.T.Tables l.fn.run) (block (evals l.self.room) (drop l.s-index l.ss)) (at g.F.Files g.T.Tables l.run)
