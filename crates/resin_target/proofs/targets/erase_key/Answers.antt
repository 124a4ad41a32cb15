use Rattle.resin_target.specs.Stores.{erased}
use Rattle.resin_target.proofs.Ends.{changed_there}
use Rattle.resin_target.proofs.targets.erase_key.Goals as goal

pub returns-in-Ok : goal.returns-in-Ok
returns-in-Ok c = record { acts = changed_there c.args.at.now (λ x. erased c.args.indices.now x) _ _ _ _ _ _ c.in_ok-here.ensures.acts c.in-Ok.ensures c.put.ensures.acts }
