use Rattle.std.proofs.Common.{◌≡◌, drop}
use Rattle.resin_target.specs.Targets.{read_indices}
use Rattle.resin_target.proofs.targets.read_indices.Given as goal

abbrev pub invariant-loop-index : goal.invariant-loop-index
invariant-loop-index l = read_indices (drop l.index-index l.indices) l.here ≡ read_indices l.indices l.fn.here
