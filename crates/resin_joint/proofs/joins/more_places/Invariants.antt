use Rattle.std.proofs.Common.{◌≡◌, length}
use Rattle.resin_sql_words.specs.Forms.{under}
use Rattle.resin_joint.specs.Joins as spec
use Rattle.resin_joint.proofs.joins.more_places.Given as goal

abbrev pub invariant-turns : goal.invariant-turns
invariant-turns l = under (spec.more_places (l.names, l.free)) l.bytes ≡ under (spec.more_places (l.initial.names, l.initial.free)) l.initial.bytes

abbrev pub decreases-turns : goal.decreases-turns
decreases-turns l = length l.bytes
