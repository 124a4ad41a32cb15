use Rattle.std.proofs.Common.{length}
use Rattle.resin_session.proofs.Sessions.{Begun}
use Rattle.resin_session.proofs.reading.read_entries.Given as goal

abbrev pub invariant-entries : goal.invariant-entries
invariant-entries l = Begun l.text l.array l.rest

abbrev pub decreases-entries : goal.decreases-entries
decreases-entries l = length l.rest
