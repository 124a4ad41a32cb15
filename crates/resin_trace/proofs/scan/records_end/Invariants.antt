-- The records so far lead to the place.
use Rattle.std.proofs.Common.{◌-◌, length}
use Rattle.resin_trace.proofs.Tailing.{Led}
use Rattle.resin_trace.proofs.scan.records_end.Given as goal

abbrev pub invariant-records : goal.invariant-records
invariant-records l = Led l.text l.at

abbrev pub decreases-records : goal.decreases-records
decreases-records l = length l.text - l.at
