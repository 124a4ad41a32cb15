-- the literals before the index are kept, and the rest is left
use Rattle.std.proofs.Common.{[], drop}
use Rattle.resin_eval_writes.specs.Under.meaning_forms.Cells.{kept_literals}
use Rattle.resin_eval_writes.specs.Under.meaning_forms.Programs.{evals}
use Rattle.resin_eval_writes.specs.Under.meaning.Runs.{Leads}
use Rattle.resin_eval_writes.specs.Under.eval_nested.Running.{at}
use Rattle.resin_eval_queries.proofs.literals.LiteralKeeper.literals.Given as goal

abbrev pub invariant-loop-next : goal.invariant-loop-next
invariant-loop-next g l = Leads (kept_literals (evals l.self.by.now.room) l.text l.literals []) (at g.F.Files g.T.Tables l.fn.run) (kept_literals (evals l.self.by.now.room) l.text (drop l.next-index l.literals) l.cells) (at g.F.Files g.T.Tables l.run)
