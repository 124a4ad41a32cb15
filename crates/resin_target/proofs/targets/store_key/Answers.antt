use Rattle.resin_target.specs.Stores.{stored}
use Rattle.resin_target.proofs.Ends.{changed_there}
use Rattle.resin_target.proofs.targets.store_key.Goals as goal

pub returns-in-Ok : goal.returns-in-Ok
returns-in-Ok c = record { acts = changed_there c.args.at.now (λ x. stored c.args.indices.now c.args.v x) _ _ _ _ _ _ c.in_ok-here.ensures.acts c.in-Ok.ensures c.put.ensures.acts }
