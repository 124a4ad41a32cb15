use Rattle.resin_program_grammar.specs.Names.{Body}
use Rattle.resin_parse_statement.proofs.Opened.{opened_at}
use Rattle.resin_parse_statement.proofs.parser.Parser.body_inside.Goals as goal

pub returns : goal.returns
returns g c = opened_at c.args.self.now.reader.lines.now c.inside.result.reader.lines.now c.args.self.now.reader.depth c.inside.result.reader.depth (Body c.args.around) c.args.tokens.now c.body_within.new.tokens c.body_within.result c.inside.ensures.lines c.inside.ensures.depth c.body_within.ensures
