use Rattle.resin_base.proofs.CallNumbers.{asked}
use Rattle.resin_base.proofs.calls.Calls.ask.Goals as goal

pub returns-clause-asked : goal.returns-clause-asked
returns-clause-asked c = asked _ _ _ c.requires.numbered c.in_ok-push.ensures.ok
