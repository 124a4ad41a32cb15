use Rattle.std.proofs.Common.{drop}
use Rattle.resin_array_fn.specs.Under.value.Seen.{trees_of}
use Rattle.resin_builtin.specs.Rows.{format_arguments}
use Rattle.resin_builtin.proofs.Read.{argument_ends, none_left}
use Rattle.resin_builtin.proofs.format_row.format_arguments.Goals as goal

pub returns-in_default : goal.returns-in_default
returns-in_default c =
    argument_ends c.loop-kind.out (drop c.loop-kind.kind-index c.args.kinds.now) (trees_of c.loop-kind.rest.now) (format_arguments c.args.kinds.now (trees_of c.args.args.now)) c.loop-kind.invariant (none_left c.loop-kind.rest.now c.in_default.len_below)
