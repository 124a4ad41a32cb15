use Rattle.resin_serve.proofs.Exchanging.{exchanged_runs}
use Rattle.resin_serve.proofs.laws.exchanged_runs.Goals as goal

pub returns : goal.returns
returns c = exchanged_runs
