-- the cells before the index are read, and the rest is left
use Rattle.std.proofs.Common.{drop}
use Rattle.resin_eval_writes.specs.Under.meaning_forms.Queries.{row_on}
use Rattle.resin_eval_writes.specs.Under.meaning_forms.Programs.{evals}
use Rattle.resin_eval_writes.specs.Under.meaning.Runs.{Leads}
use Rattle.resin_eval_writes.specs.Under.eval_nested.Running.{at}
use Rattle.resin_eval_writes.specs.Under.value.Changes.{empty}
use Rattle.resin_eval_queries.proofs.rows.RowReader.row.Given as goal

abbrev pub invariant-loop-i : goal.invariant-loop-i
invariant-loop-i g l = Leads (row_on (evals l.self.by.now.room) l.columns l.cells empty) (at g.F.Files g.T.Tables l.fn.run) (row_on (evals l.self.by.now.room) (drop l.i l.columns) (drop l.i l.cells) l.row) (at g.F.Files g.T.Tables l.run)
