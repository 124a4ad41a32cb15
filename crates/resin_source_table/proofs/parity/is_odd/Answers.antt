use Rattle.resin_source_table.proofs.Gives.{gives}
use Rattle.resin_source_table.proofs.parity.is_odd.Goals as goal

pub returns : goal.returns
returns c = gives c.args.depth c.args.signs.now c.sum.new.signs c.sum.result c.sum.ensures
