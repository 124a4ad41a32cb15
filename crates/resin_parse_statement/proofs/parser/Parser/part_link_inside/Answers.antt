use Rattle.resin_program_grammar.specs.Names.{PartLink}
use Rattle.resin_parse_statement.proofs.Opened.{opened_at}
use Rattle.resin_parse_statement.proofs.parser.Parser.part_link_inside.Goals as goal

pub returns : goal.returns
returns g c = opened_at c.args.self.now.reader.lines.now c.inside.result.reader.lines.now c.args.self.now.reader.depth c.inside.result.reader.depth (PartLink c.args.in_loop c.args.chain) c.args.tokens.now c.part_link.new.tokens c.part_link.result c.inside.ensures.lines c.inside.ensures.depth c.part_link.ensures
