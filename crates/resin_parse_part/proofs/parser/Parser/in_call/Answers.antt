use Rattle.resin_grammar.specs.Names.{Arguments}
use Rattle.resin_parse_part.proofs.OpenedLaws.{opened}
use Rattle.resin_parse_part.proofs.parser.Parser.in_call.Goals as goal

pub returns : goal.returns
returns g c = opened c.args.self.now.depth c.inside.result.depth Arguments c.args.tokens.now c.arguments_within.new.tokens c.arguments_within.result c.inside.ensures.depth c.arguments_within.ensures
