use Rattle.std.proofs.Common.{◌+◌, ◌-◌, arith}
use Rattle.resin_parse_statement.proofs.Fewer.{fewer}
use Rattle.resin_parse_statement.proofs.parser.Parser.inside.Goals as goal

pub returns-clause-nests : goal.returns-clause-nests
returns-clause-nests g c = fewer _ _ (c.inside.result.depth + 1) c.args.self.now.reader.depth (omega (arith, c.inside.ensures.depth)) c.requires.nests

pub returns-clause-fewer : goal.returns-clause-fewer
returns-clause-fewer g c = fewer _ _ c.inside.result.depth c.args.self.now.reader.depth (omega (arith, c.inside.ensures.depth)) c.requires.nests
