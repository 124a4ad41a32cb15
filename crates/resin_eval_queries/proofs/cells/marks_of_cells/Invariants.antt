-- the cells before the index are looked at, and the rest is left
use Rattle.std.proofs.Common.{[], drop}
use Rattle.resin_eval_writes.specs.Under.meaning_forms.Cells.{marks_of_cells}
use Rattle.resin_eval_writes.proofs.step_parts_lemmas.Steps.{Leaves}
use Rattle.resin_eval_queries.proofs.cells.marks_of_cells.Given as goal

abbrev pub invariant-loop-cell : goal.invariant-loop-cell
invariant-loop-cell l = Leaves (marks_of_cells l.cells []) l.m (marks_of_cells (drop l.cell-index l.cells) l.all) l.m
