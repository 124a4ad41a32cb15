use Rattle.resin_serve.proofs.Alike.{same_runs}
use Rattle.resin_serve.proofs.laws.same_runs.Goals as goal

pub returns : goal.returns
returns c = same_runs
