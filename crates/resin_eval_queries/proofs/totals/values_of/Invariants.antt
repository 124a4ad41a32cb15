use Rattle.std.proofs.Common.{◌≡◌, map, take}
use Rattle.resin_eval_writes.specs.Under.base.declared.stored.StoredCell.{StoredCell}
use Rattle.resin_eval_queries.proofs.totals.values_of.Given as goal

abbrev pub invariant-loop-cell : goal.invariant-loop-cell
invariant-loop-cell l = l.values.items ≡ map (λ (v : StoredCell). v.value) (take l.cell-index l.cells)
