use Rattle.std.proofs.Common.{◌∙◌, sym, arith}
use Rattle.resin_audit.proofs.Taking.{rises_end}
use Rattle.resin_audit.proofs.labels.rises.Goals as goal

pub returns : goal.returns
returns c = sym (c.loop-i.invariant ∙ rises_end c.args.numbers.now c.loop-i.i (omega arith) (omega arith))
