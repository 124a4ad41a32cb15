use Rattle.resin_program_grammar.specs.Names.{Statements}
use Rattle.resin_parse_statement.proofs.Opened.{opened_at}
use Rattle.resin_parse_statement.proofs.parser.Parser.statements_inside.Goals as goal

pub returns : goal.returns
returns g c = opened_at c.args.self.now.reader.lines.now c.inside.result.reader.lines.now c.args.self.now.reader.depth c.inside.result.reader.depth (Statements c.args.in_loop) c.args.tokens.now c.inner_statements.new.tokens c.inner_statements.result c.inside.ensures.lines c.inside.ensures.depth c.inner_statements.ensures
