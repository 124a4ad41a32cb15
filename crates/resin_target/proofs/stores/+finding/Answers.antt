use Rattle.std.proofs.Common.{ap, ◌∙◌}
use Rattle.resin_target.specs.Stores.{found}
use Rattle.resin_target.proofs.Indexed.{found_null, gives_as, value_there, value_missing}
use Rattle.resin_target.proofs.stores.+finding.Goals as goal

pub found_below-returns-in-Some : goal.found_below-returns-in-Some
found_below-returns-in-Some t c = gives_as _ _ _ (ap (found c.args.rest.now) (value_there c.args.key.now c.in-Some.below.now c.args.array.now c.in-Some.ensures)) c.found.ensures

pub found_below-returns-in-None : goal.found_below-returns-in-None
found_below-returns-in-None t c = ap (found c.args.rest.now) (value_missing c.args.key.now c.args.array.now c.in-None.ensures) ∙ found_null c.args.rest.now
