use Rattle.std.proofs.Common.{◌≡◌, ◌+◌, drop}
use Rattle.std.specs.Prelude.{sum_by}
use Rattle.resin_array_fn.specs.Under.value.Seen.{trees_of}
use Rattle.resin_builtin.specs.Calls.{cost}
use Rattle.resin_builtin.proofs.calls.pay.Given as goal

abbrev pub invariant-loop-value : goal.invariant-loop-value
invariant-loop-value l = l.left + sum_by cost (trees_of l.args) ≡ l.fn.ticks.left + sum_by cost (trees_of (drop l.value-index l.args))
