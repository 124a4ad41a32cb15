use Rattle.resin_program_grammar.specs.Names.{Digits}
use Rattle.resin_parse_plain.proofs.Lifted.{opened_at}
use Rattle.resin_parse_plain.proofs.reader.Reader.digits_inside.Goals as goal

pub returns-clause-reads : goal.returns-clause-reads
returns-clause-reads c = opened_at c.args.self.now.lines.now c.inside.result.lines.now c.args.self.now.depth c.inside.result.depth Digits c.args.tokens.now c.digits.new.tokens c.digits.result c.inside.ensures.lines c.inside.ensures.depth c.digits.ensures.reads
