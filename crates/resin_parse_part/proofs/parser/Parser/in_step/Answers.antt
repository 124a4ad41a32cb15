use Rattle.resin_grammar.specs.Names.{Changed}
use Rattle.resin_parse_part.proofs.OpenedLaws.{opened}
use Rattle.resin_parse_part.proofs.parser.Parser.in_step.Goals as goal

pub returns : goal.returns
returns g c = opened c.args.self.now.depth c.inside.result.depth Changed c.args.tokens.now c.target.new.tokens c.target.result c.inside.ensures.depth c.target.ensures
