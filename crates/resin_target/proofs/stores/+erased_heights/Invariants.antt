use Rattle.std.proofs.Common.{length, ◌*◌, ◌+◌}
use Rattle.resin_target.proofs.stores.+erased_heights.Given as goal

abbrev pub decreases-erased_height : goal.decreases-erased_height
decreases-erased_height l = 2 * length l.indices.now

abbrev pub decreases-height_without : goal.decreases-height_without
decreases-height_without l = 2 * length l.rest.now + 1
