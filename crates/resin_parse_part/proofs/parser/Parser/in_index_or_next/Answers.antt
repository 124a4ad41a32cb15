use Rattle.resin_grammar.specs.Names.{IndexOrNext}
use Rattle.resin_parse_part.proofs.OpenedLaws.{opened}
use Rattle.resin_parse_part.proofs.parser.Parser.in_index_or_next.Goals as goal

pub returns : goal.returns
returns g c = opened c.args.self.now.depth c.inside.result.depth IndexOrNext c.args.tokens.now c.index_or_next_within.new.tokens c.index_or_next_within.result c.inside.ensures.depth c.index_or_next_within.ensures
