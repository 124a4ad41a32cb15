use Rattle.resin_grammar.specs.Names.{Interpolated}
use Rattle.resin_parse_part.proofs.OpenedLaws.{opened}
use Rattle.resin_parse_part.proofs.parser.Parser.in_braces.Goals as goal

pub returns : goal.returns
returns g c = opened c.args.self.now.depth c.inside.result.depth Interpolated c.args.tokens.now c.braced_within.new.tokens c.braced_within.result c.inside.ensures.depth c.braced_within.ensures
