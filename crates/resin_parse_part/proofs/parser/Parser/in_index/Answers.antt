use Rattle.resin_grammar.specs.Names.{Index}
use Rattle.resin_parse_part.proofs.OpenedLaws.{opened}
use Rattle.resin_parse_part.proofs.parser.Parser.in_index.Goals as goal

pub returns : goal.returns
returns g c = opened c.args.self.now.depth c.inside.result.depth Index c.args.tokens.now c.closed_by.new.tokens c.closed_by.result c.inside.ensures.depth c.closed_by.ensures
