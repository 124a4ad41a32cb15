use Rattle.resin_program_grammar.specs.Names.{ConstantItems}
use Rattle.resin_parse_plain.proofs.Lifted.{opened_at}
use Rattle.resin_parse_plain.proofs.constant.Constants.items_inside.Goals as goal

pub returns : goal.returns
returns g c = opened_at c.args.self.now.reader.lines.now c.inside.result.reader.lines.now c.args.self.now.reader.depth c.inside.result.reader.depth (ConstantItems c.args.close) c.args.tokens.now c.items.new.tokens c.items.result c.inside.ensures.lines c.inside.ensures.depth c.items.ensures
