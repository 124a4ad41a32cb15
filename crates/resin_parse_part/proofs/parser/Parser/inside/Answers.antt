use Rattle.std.proofs.Common.{◌+◌, ◌-◌, arith}
use Rattle.resin_parse_part.proofs.Fewer.{fewer}
use Rattle.resin_parse_part.proofs.parser.Parser.inside.Goals as goal

pub returns-clause-nests : goal.returns-clause-nests
returns-clause-nests g c = fewer _ _ (c.args.self.now.depth - 1 + 1) c.args.self.now.depth (omega arith) c.requires.nests

pub returns-clause-fewer : goal.returns-clause-fewer
returns-clause-fewer g c = fewer _ _ (c.args.self.now.depth - 1) c.args.self.now.depth (omega arith) c.requires.nests
