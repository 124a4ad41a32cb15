use Rattle.resin_program_grammar.specs.Names.{ClassMembers}
use Rattle.resin_parse_statement.proofs.Opened.{opened_at}
use Rattle.resin_parse.proofs.class.Declarations.members_inside.Goals as goal

pub returns : goal.returns
returns c = opened_at c.args.self.now.reader.lines.now c.inside.result.lines.now c.args.self.now.reader.depth c.inside.result.depth ClassMembers c.args.tokens.now c.members.new.tokens c.members.result c.inside.ensures.lines c.inside.ensures.depth c.members.ensures
