-- What is kept says what the items so far are.
use Rattle.std.proofs.Common.{length}
use Rattle.resin_audit.proofs.Standing.{Stands}
use Rattle.resin_audit.proofs.checker.audit.Given as goal

abbrev pub invariant-items : goal.invariant-items
invariant-items l = Stands l.text l.progress l.rest

abbrev pub decreases-items : goal.decreases-items
decreases-items l = length l.rest
