use Rattle.std.proofs.Common.{◌-◌, drop, length}
use Rattle.resin_eval_writes.specs.Under.meaning.Runs.{Leads}
use Rattle.resin_eval_writes.specs.Under.meaning_forms.Programs.{evals}
use Rattle.resin_eval_writes.specs.Under.meaning_forms.Statements.{each_entry}
use Rattle.resin_eval_writes.specs.Under.eval_nested.Running.{at}
use Rattle.resin_eval_statements.proofs.forms.Statements.each_entry.Given as goal

abbrev pub invariant-loop-i : goal.invariant-loop-i
invariant-loop-i g l = Leads (each_entry (evals l.self.by.now.room) l.kx l.x l.body l.a.entries) (at g.F.Files g.T.Tables l.fn.run) (each_entry (evals l.self.by.now.room) l.kx l.x l.body (drop l.i l.a.entries)) (at g.F.Files g.T.Tables l.run)

abbrev pub decreases-loop-i : goal.decreases-loop-i
decreases-loop-i g l = length l.a.entries - l.i
