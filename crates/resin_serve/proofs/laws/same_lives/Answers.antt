use Rattle.resin_serve.proofs.Lives.{same_lives}
use Rattle.resin_serve.proofs.laws.same_lives.Goals as goal

pub returns : goal.returns
returns c = same_lives
