use Rattle.resin_program_grammar.specs.Names.{Targets}
use Rattle.resin_parse_plain.proofs.Lifted.{opened_at}
use Rattle.resin_parse_plain.proofs.reader.Reader.targets_inside.Goals as goal

pub returns : goal.returns
returns c = opened_at c.args.self.now.lines.now c.inside.result.lines.now c.args.self.now.depth c.inside.result.depth Targets c.args.tokens.now c.targets.new.tokens c.targets.result c.inside.ensures.lines c.inside.ensures.depth c.targets.ensures
