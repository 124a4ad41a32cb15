use Rattle.resin_grammar.specs.Names.{Asked}
use Rattle.resin_parse_part.proofs.OpenedLaws.{opened}
use Rattle.resin_parse_part.proofs.parser.Parser.in_isset.Goals as goal

pub returns : goal.returns
returns g c = opened c.args.self.now.depth c.inside.result.depth Asked c.args.tokens.now c.asked_within.new.tokens c.asked_within.result c.inside.ensures.depth c.asked_within.ensures
