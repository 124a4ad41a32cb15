use Rattle.resin_program_grammar.specs.Names.{CatchHead}
use Rattle.resin_parse_plain.proofs.Lifted.{opened_at}
use Rattle.resin_parse_plain.proofs.reader.Reader.catch_head_inside.Goals as goal

pub returns : goal.returns
returns c = opened_at c.args.self.now.lines.now c.inside.result.lines.now c.args.self.now.depth c.inside.result.depth CatchHead c.args.tokens.now c.catch_head.new.tokens c.catch_head.result c.inside.ensures.lines c.inside.ensures.depth c.catch_head.ensures
