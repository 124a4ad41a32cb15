use Rattle.resin_label.proofs.Members.{of_rising-nil}
use Rattle.resin_label.proofs.set.PSet.empty.Goals as goal

pub returns : goal.returns
returns c = of_rising-nil
