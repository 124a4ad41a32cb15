-- the rows before the index are read, and the rest is left
use Rattle.std.proofs.Common.{drop}
use Rattle.resin_eval_writes.specs.Under.meaning_forms.Queries.{rows_on}
use Rattle.resin_eval_writes.specs.Under.meaning_forms.Programs.{evals}
use Rattle.resin_eval_writes.specs.Under.meaning.Runs.{Leads}
use Rattle.resin_eval_writes.specs.Under.eval_nested.Running.{at}
use Rattle.resin_eval_writes.specs.Under.value.Changes.{empty}
use Rattle.resin_eval_queries.proofs.rows.RowReader.list.Given as goal

abbrev pub invariant-loop-cells : goal.invariant-loop-cells
invariant-loop-cells g l = Leads (rows_on (evals l.self.by.now.room) l.columns l.rows empty) (at g.F.Files g.T.Tables l.fn.run) (rows_on (evals l.self.by.now.room) l.columns (drop l.cells-index l.rows) l.list) (at g.F.Files g.T.Tables l.run)
