use Rattle.resin_serve.proofs.Recording.{records_pass}
use Rattle.resin_serve.proofs.laws.recorded_runs.Goals as goal

pub returns : goal.returns
returns c = records_pass
