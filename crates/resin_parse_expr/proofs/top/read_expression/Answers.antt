use Rattle.resin_parse_expr.proofs.GivesLaws.{gives}
use Rattle.resin_parse_expr.proofs.top.read_expression.Goals as goal

pub returns-clause-gives : goal.returns-clause-gives
returns-clause-gives c = gives c.args.depth c.args.tokens.now c.expression.new.tokens c.expression.result c.expression.ensures
