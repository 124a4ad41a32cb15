-- The numbers are fewer in each half.
use Rattle.std.proofs.Common.{length}
use Rattle.resin_step_functions.proofs.policies.+set_of.Given as goal

abbrev pub decreases-set_of : goal.decreases-set_of
decreases-set_of l = length l.numbers.now
