use Rattle.std.proofs.Common.{length, ◌*◌, ◌+◌}
use Rattle.resin_target.proofs.stores.+heights.Given as goal

abbrev pub decreases-stored_height : goal.decreases-stored_height
decreases-stored_height l = 2 * length l.indices.now

abbrev pub decreases-height_with : goal.decreases-height_with
decreases-height_with l = 2 * length l.rest.now + 1
