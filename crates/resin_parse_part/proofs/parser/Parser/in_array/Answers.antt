use Rattle.resin_grammar.specs.Names.{Items}
use Rattle.resin_parse_part.proofs.OpenedLaws.{opened}
use Rattle.resin_parse_part.proofs.parser.Parser.in_array.Goals as goal

pub returns : goal.returns
returns g c = opened c.args.self.now.depth c.inside.result.depth (Items c.args.close) c.args.tokens.now c.items_within.new.tokens c.items_within.result c.inside.ensures.depth c.items_within.ensures
