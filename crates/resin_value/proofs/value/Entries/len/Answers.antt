use Rattle.std.proofs.Common.{ap, arith, length}
use Rattle.resin_value.proofs.Pairs.{length-pairs}
use Rattle.resin_value.proofs.value.Entries.len.Goals as goal

pub returns : goal.returns
returns c =
    let s = c.self.inside in
    omega (arith, c.len.ensures, s.list.ok, length-pairs s.list.items, ap length c.self.view_is)
