use Rattle.resin_grammar.specs.Names.{Bracketed}
use Rattle.resin_parse_part.proofs.OpenedLaws.{opened}
use Rattle.resin_parse_part.proofs.parser.Parser.in_brackets.Goals as goal

pub returns : goal.returns
returns g c = opened c.args.self.now.depth c.inside.result.depth Bracketed c.args.tokens.now c.closed_by.new.tokens c.closed_by.result c.inside.ensures.depth c.closed_by.ensures
