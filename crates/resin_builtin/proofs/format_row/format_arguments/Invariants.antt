use Rattle.std.proofs.Common.{◌≡◌, ◌++◌, drop}
use Rattle.resin_array_fn.specs.Under.value.Seen.{trees_of}
use Rattle.resin_builtin.specs.Rows.{mapped, format_arguments}
use Rattle.resin_builtin.proofs.format_row.format_arguments.Given as goal

abbrev pub invariant-loop-kind : goal.invariant-loop-kind
invariant-loop-kind l = mapped (λ more. l.out ++ more) (format_arguments (drop l.kind-index l.kinds) (trees_of l.rest)) ≡ format_arguments l.kinds (trees_of l.args)
