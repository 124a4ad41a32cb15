use Rattle.resin_eval_nested.specs.Under.meaning_forms.Merges.{fold_on}
use Rattle.resin_eval_nested.specs.Under.meaning_forms.Programs.{evals}
use Rattle.resin_eval_nested.specs.Under.meaning.Runs.{Leads}
use Rattle.std.proofs.Common.{drop}
use Rattle.resin_eval_nested.specs.Running.{at}
use Rattle.resin_eval_merges.proofs.merges.Merger.fold_on.Given as goal

abbrev pub invariant-loop-set : goal.invariant-loop-set
invariant-loop-set g l = Leads (fold_on (evals l.self.by.now.room) l.fn.so_far l.sets) (at g.F.Files g.T.Tables l.fn.run) (fold_on (evals l.self.by.now.room) l.both (drop l.set-index l.sets)) (at g.F.Files g.T.Tables l.run)
