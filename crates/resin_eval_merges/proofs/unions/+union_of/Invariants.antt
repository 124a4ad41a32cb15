-- The sets are fewer in each half.
use Rattle.std.proofs.Common.{length}
use Rattle.resin_eval_merges.proofs.unions.+union_of.Given as goal

abbrev pub decreases-union_of : goal.decreases-union_of
decreases-union_of l = length l.sets.now
