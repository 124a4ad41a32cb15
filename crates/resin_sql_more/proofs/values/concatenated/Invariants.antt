use Rattle.std.proofs.Common.{◌≡◌, ◌∷◌, ◌++◌, drop}
use Rattle.std.specs.List.{flat_map}
use Rattle.resin_sql_more.specs.Values.{as_text, concatenated}
use Rattle.resin_sql_more.proofs.values.concatenated.Given as goal

abbrev pub invariant-loop-cell : goal.invariant-loop-cell
invariant-loop-cell l = l.out ++ flat_map (λ d. 44 ∷ as_text d) (drop l.cell-index l.cells) ≡ concatenated l.first l.fn.cells
