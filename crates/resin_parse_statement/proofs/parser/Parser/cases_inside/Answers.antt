use Rattle.resin_program_grammar.specs.Names.{Cases}
use Rattle.resin_parse_statement.proofs.Opened.{opened_at}
use Rattle.resin_parse_statement.proofs.parser.Parser.cases_inside.Goals as goal

pub returns : goal.returns
returns g c = opened_at c.args.self.now.reader.lines.now c.inside.result.reader.lines.now c.args.self.now.reader.depth c.inside.result.reader.depth Cases c.args.tokens.now c.cases.new.tokens c.cases.result c.inside.ensures.lines c.inside.ensures.depth c.cases.ensures
