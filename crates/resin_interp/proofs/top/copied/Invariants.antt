use Rattle.std.proofs.Common.{take, ◌≡◌}
use Rattle.resin_interp.proofs.top.copied.Given as goal

abbrev pub invariant-loop-v : goal.invariant-loop-v
invariant-loop-v l = l.own ≡ take l.v-index l.args
