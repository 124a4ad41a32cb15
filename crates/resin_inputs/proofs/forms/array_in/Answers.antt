use Rattle.std.proofs.Common.{ap}
use Rattle.resin_value.specs.Seen.{tree_of}
use Rattle.resin_inputs.proofs.PutLemmas.{copied}
use Rattle.resin_inputs.proofs.forms.array_in.Goals as goal

pub returns-in-Arr : goal.returns-in-Arr
returns-in-Arr c = copied _ _ _ _ (ap tree_of c.in-Arr.is) c.clone.ensures.cases
