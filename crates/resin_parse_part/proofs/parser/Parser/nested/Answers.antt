use Rattle.std.proofs.Common.{◌-◌, arith}
use Rattle.resin_grammar.specs.Names.{Level}
use Rattle.resin_parse_part.proofs.OpenedLaws.{opened}
use Rattle.resin_parse_part.proofs.parser.Parser.nested.Goals as goal

pub returns : goal.returns
returns g c =
    opened c.args.self.now.depth (c.args.self.now.depth - 1) (Level c.args.level) c.args.tokens.now c.level.new.arg3 c.level.result (omega (arith, c.requires.room))
    (c.requires.nests.reads _ _ _ (c.args.self.now.depth - 1) c.args.level c.level.result (omega (arith, c.requires.room)) c.level.ensures)
