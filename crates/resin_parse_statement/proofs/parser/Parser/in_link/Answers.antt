use Rattle.resin_program_grammar.specs.Names.{Link}
use Rattle.resin_parse_statement.proofs.Opened.{opened_at}
use Rattle.resin_parse_statement.proofs.parser.Parser.in_link.Goals as goal

pub returns : goal.returns
returns g c = opened_at c.args.self.now.reader.lines.now c.inside.result.reader.lines.now c.args.self.now.reader.depth c.inside.result.reader.depth (Link c.args.around c.args.chain) c.args.tokens.now c.link_within.new.tokens c.link_within.result c.inside.ensures.lines c.inside.ensures.depth c.link_within.ensures
