use Rattle.std.proofs.Common.{length, ◌*◌, ◌+◌}
use Rattle.resin_target.proofs.stores.+finding.Given as goal

abbrev pub decreases-found : goal.decreases-found
decreases-found l = 2 * length l.indices.now

abbrev pub decreases-found_below : goal.decreases-found_below
decreases-found_below l = 2 * length l.rest.now + 1
