use Rattle.std.proofs.Common.{sym, ◌∙◌, arith}
use Rattle.resin_trace.proofs.Scanning.{end_need}
use Rattle.resin_trace.proofs.scan.end.Goals as goal

pub returns-then-i-text : goal.returns-then-i-text
returns-then-i-text c = sym c.loop-i.invariant.is ∙ end_need c.args.text.now c.args.word.now c.args.conn c.args.at c.loop-i.i (omega arith) (omega arith)
