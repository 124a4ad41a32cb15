use Rattle.std.proofs.Common.{arith}
use Rattle.resin_parse_plain.proofs.LineLaws.{at_most}
use Rattle.resin_parse_plain.proofs.lines.Lines.line_of.Goals as goal

pub overflow_cast-result : goal.overflow_cast-result
overflow_cast-result c = let h = at_most c.args.token.now.from c.as_slice.result.now in grind (arith, h, c.count_before.ensures, c.as_slice.ensures, c.self.invariant)

pub overflow_add-result : goal.overflow_add-result
overflow_add-result c = let h = at_most c.args.token.now.from c.as_slice.result.now in grind (arith, h, c.count_before.ensures, c.as_slice.ensures, c.self.invariant)
