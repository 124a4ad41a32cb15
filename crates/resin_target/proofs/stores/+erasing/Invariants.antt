use Rattle.std.proofs.Common.{length, ◌*◌, ◌+◌}
use Rattle.resin_target.proofs.stores.+erasing.Given as goal

abbrev pub decreases-erased : goal.decreases-erased
decreases-erased l = 2 * length l.indices.now

abbrev pub decreases-changed_at : goal.decreases-changed_at
decreases-changed_at l = 2 * length l.rest.now + 1
