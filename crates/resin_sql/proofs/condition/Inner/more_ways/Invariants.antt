use Rattle.std.proofs.Common.{◌≡◌, length}
use Rattle.resin_sql_words.specs.Forms.{under}
use Rattle.resin_sql.specs.Conditions as spec
use Rattle.resin_sql.proofs.condition.Inner.more_ways.Given as goal

abbrev pub invariant-turns : goal.invariant-turns
invariant-turns g l = under (spec.more_ways (spec.atom (spec.tested_as l.self.naming) l.self.room) l.orders (l.done, l.behind)) l.bytes ≡ under (spec.more_ways (spec.atom (spec.tested_as l.self.naming) l.self.room) l.orders (l.initial.done, l.initial.behind)) l.initial.bytes

abbrev pub decreases-turns : goal.decreases-turns
decreases-turns g l = length l.bytes
