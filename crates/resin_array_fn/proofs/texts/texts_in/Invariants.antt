use Rattle.std.proofs.Common.{◌≡◌, ◌++◌, drop, Ok}
use Rattle.std.specs.Prelude.{map}
use Rattle.resin_array_fn.specs.Filled.{and_then}
use Rattle.resin_array_fn.specs.Rows.{values, texts_in}
use Rattle.resin_array_fn.proofs.texts.texts_in.Given as goal

abbrev pub invariant-loop-i : goal.invariant-loop-i
invariant-loop-i l = and_then (texts_in (map (λ e. e.1) (drop l.i l.a.entries))) (λ ys. Ok (l.out ++ ys)) ≡ texts_in (values l.a)
