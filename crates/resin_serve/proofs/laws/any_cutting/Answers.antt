use Rattle.resin_serve.proofs.Cuttings.{any_cutting}
use Rattle.resin_serve.proofs.laws.any_cutting.Goals as goal

pub returns : goal.returns
returns c = any_cutting
