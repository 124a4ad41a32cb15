use Rattle.std.proofs.Common.{length}
use Rattle.resin_target.proofs.stores.+storing.Given as goal

abbrev pub decreases-stored : goal.decreases-stored
decreases-stored l = length l.indices.now
