use Rattle.std.proofs.Common.{drop}
use Rattle.resin_eval_merges.specs.Under.meaning.Runs.{Leads}
use Rattle.resin_eval_merges.specs.Under.meaning_forms.Programs.{evals}
use Rattle.resin_eval_merges.specs.Under.meaning_forms.Targets.{steps, steps_on}
use Rattle.resin_eval_merges.specs.Under.eval_nested.Running.{at}
use Rattle.resin_eval_assign.proofs.assign.Assigner.steps.Given as goal

abbrev pub invariant-loop-s : goal.invariant-loop-s
invariant-loop-s g l = Leads (steps (evals l.self.by.now.room) l.path) (at g.F.Files g.T.Tables l.fn.run) (steps_on (evals l.self.by.now.room) l.out (drop l.s-index l.path)) (at g.F.Files g.T.Tables l.run)
