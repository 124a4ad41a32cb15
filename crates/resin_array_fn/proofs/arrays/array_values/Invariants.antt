use Rattle.std.proofs.Common.{◌≡◌, drop}
use Rattle.std.specs.Prelude.{map}
use Rattle.resin_array_fn.specs.Filled.{filled_on, in_order}
use Rattle.resin_array_fn.specs.Rows.{array_values}
use Rattle.resin_array_fn.proofs.arrays.array_values.Given as goal

abbrev pub invariant-loop-i : goal.invariant-loop-i
invariant-loop-i l = filled_on l.out (in_order (map (λ e. e.1) (drop l.i l.a.entries))) ≡ array_values l.a
