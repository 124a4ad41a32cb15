use Rattle.resin_grammar.specs.Names.{Otherwise}
use Rattle.resin_parse_part.proofs.OpenedLaws.{opened}
use Rattle.resin_parse_part.proofs.parser.Parser.in_otherwise.Goals as goal

pub returns : goal.returns
returns g c = opened c.args.self.now.depth c.inside.result.depth Otherwise c.args.tokens.now c.otherwise_within.new.tokens c.otherwise_within.result c.inside.ensures.depth c.otherwise_within.ensures
