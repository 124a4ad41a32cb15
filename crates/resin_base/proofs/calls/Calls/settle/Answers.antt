use Rattle.resin_base.proofs.CallNumbers.{numbered_settled}
use Rattle.resin_base.proofs.calls.Calls.settle.Goals as goal

pub returns-clause-numbered : goal.returns-clause-numbered
returns-clause-numbered g c = numbered_settled _ _ _ c.requires.asked c.count.ensures
