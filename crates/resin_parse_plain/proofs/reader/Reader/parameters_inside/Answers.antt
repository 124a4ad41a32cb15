use Rattle.resin_program_grammar.specs.Names.{FunctionParameters}
use Rattle.resin_parse_plain.proofs.Lifted.{opened_at}
use Rattle.resin_parse_plain.proofs.reader.Reader.parameters_inside.Goals as goal

pub returns : goal.returns
returns c = opened_at c.args.self.now.lines.now c.inside.result.lines.now c.args.self.now.depth c.inside.result.depth FunctionParameters c.args.tokens.now c.parameters.new.tokens c.parameters.result c.inside.ensures.lines c.inside.ensures.depth c.parameters.ensures
