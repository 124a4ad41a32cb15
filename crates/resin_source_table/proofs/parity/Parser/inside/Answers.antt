use Rattle.std.proofs.Common.{◌-◌, arith}
use Rattle.resin_source_table.proofs.Inside.{inside}
use Rattle.resin_source_table.proofs.parity.Parser.inside.Goals as goal

pub returns : goal.returns
returns g c =
    inside c.args.self.now.depth (c.args.self.now.depth - 1) c.args.construct c.args.signs.now c.within.new.arg2 c.within.result (omega (arith, c.requires.room))
    (c.requires.nests.reads _ _ c.args.construct (c.args.self.now.depth - 1) c.within.result (omega (arith, c.requires.room)) c.within.ensures)
