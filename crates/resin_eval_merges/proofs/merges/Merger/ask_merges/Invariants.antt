use Rattle.resin_eval_nested.specs.Under.meaning_forms.Merges.{ask_merges}
use Rattle.resin_eval_nested.specs.Under.meaning_forms.Programs.{evals}
use Rattle.resin_eval_nested.specs.Under.meaning.Runs.{Leads}
use Rattle.std.proofs.Common.{drop}
use Rattle.resin_eval_nested.specs.Running.{at}
use Rattle.resin_eval_merges.proofs.merges.Merger.ask_merges.Given as goal

abbrev pub invariant-loop-p : goal.invariant-loop-p
invariant-loop-p g l = Leads (ask_merges (evals l.self.by.now.room) l.others l.policies l.fn.so_far) (at g.F.Files g.T.Tables l.fn.run) (ask_merges (evals l.self.by.now.room) l.others (drop l.p-index l.policies) l.out) (at g.F.Files g.T.Tables l.run)
