use Rattle.resin_serve.proofs.Lives.{lives_tell}
use Rattle.resin_serve.proofs.laws.lives_tell.Goals as goal

pub returns : goal.returns
returns c = lives_tell
