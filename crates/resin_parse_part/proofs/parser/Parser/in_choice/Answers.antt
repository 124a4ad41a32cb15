use Rattle.resin_grammar.specs.Names.{Branches}
use Rattle.resin_parse_part.proofs.OpenedLaws.{opened}
use Rattle.resin_parse_part.proofs.parser.Parser.in_choice.Goals as goal

pub returns : goal.returns
returns g c = opened c.args.self.now.depth c.inside.result.depth Branches c.args.tokens.now c.branches_within.new.tokens c.branches_within.result c.inside.ensures.depth c.branches_within.ensures
