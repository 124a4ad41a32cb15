use Rattle.resin_serve.proofs.Cuttings.{asked_tells}
use Rattle.resin_serve.proofs.laws.asked_tells.Goals as goal

pub returns : goal.returns
returns c = asked_tells
