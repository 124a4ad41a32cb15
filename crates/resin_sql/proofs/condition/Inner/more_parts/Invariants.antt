use Rattle.std.proofs.Common.{◌≡◌, length}
use Rattle.resin_sql_words.specs.Forms.{under}
use Rattle.resin_sql.specs.Conditions as spec
use Rattle.resin_sql.proofs.condition.Inner.more_parts.Given as goal

abbrev pub invariant-turns : goal.invariant-turns
invariant-turns g l = under (spec.more_parts (spec.atom (spec.tested_as l.self.naming) l.self.room) (l.done, l.free)) l.bytes ≡ under (spec.more_parts (spec.atom (spec.tested_as l.self.naming) l.self.room) (l.initial.done, l.initial.free)) l.initial.bytes

abbrev pub decreases-turns : goal.decreases-turns
decreases-turns g l = length l.bytes
