use Rattle.resin_program_grammar.specs.Names.{Otherwise}
use Rattle.resin_parse_statement.proofs.Opened.{opened_at}
use Rattle.resin_parse_statement.proofs.parser.Parser.otherwise_inside.Goals as goal

pub returns : goal.returns
returns g c = opened_at c.args.self.now.reader.lines.now c.inside.result.reader.lines.now c.args.self.now.reader.depth c.inside.result.reader.depth (Otherwise c.args.around c.args.chain) c.args.tokens.now c.otherwise_within.new.tokens c.otherwise_within.result c.inside.ensures.lines c.inside.ensures.depth c.otherwise_within.ensures
