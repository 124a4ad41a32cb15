-- the items before the index are made, and the rest is left
use Rattle.std.proofs.Common.{drop}
use Rattle.resin_eval_writes.specs.Under.meaning_forms.Totals.{items_on}
use Rattle.resin_eval_writes.specs.Under.meaning_forms.Programs.{evals}
use Rattle.resin_eval_writes.specs.Under.meaning.Runs.{Leads}
use Rattle.resin_eval_writes.specs.Under.eval_nested.Running.{at}
use Rattle.resin_eval_writes.specs.Under.value.Changes.{empty}
use Rattle.resin_eval_queries.proofs.totals.Totaller.items.Given as goal

abbrev pub invariant-loop-i : goal.invariant-loop-i
invariant-loop-i g l = Leads (items_on (evals l.self.by.now.room) l.chosen l.items l.rows empty) (at g.F.Files g.T.Tables l.fn.run) (items_on (evals l.self.by.now.room) l.chosen (drop l.i l.items) (drop l.i l.rows) l.row) (at g.F.Files g.T.Tables l.run)
