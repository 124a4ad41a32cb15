use Rattle.resin_eval_nested.specs.Under.meaning_forms.Programs.{evals}
use Rattle.resin_eval_nested.specs.Under.meaning_forms.Writes.{check}
use Rattle.resin_eval_nested.specs.Under.machine.Leaving.{IsUnderWay}
use Rattle.resin_eval_nested.specs.Under.meaning.LeavingWrites.{ask_policies}
use Rattle.resin_eval_nested.specs.Under.meaning.Runs.{Leads}
use Rattle.std.proofs.Common.{drop, take}
use Rattle.resin_eval_nested.specs.Running.{at}
use Rattle.resin_eval_writes.proofs.writes.Writer.ask_each.Given as goal

abbrev pub invariant-loop-p : goal.invariant-loop-p
invariant-loop-p g l = (Leads (ask_policies (check (evals l.self.by.now.room) l.context) l.write l.channel l.text l.policies) (at g.F.Files g.T.Tables l.fn.run) (ask_policies (check (evals l.self.by.now.room) l.context) l.write l.channel l.text (drop l.p-index l.policies)) (at g.F.Files g.T.Tables l.run)) × IsUnderWay l.write (take l.p-index l.policies) l.run.machine
