use Rattle.std.proofs.Common.{◌≡◌, length}
use Rattle.resin_sql_words.specs.Forms.{under}
use Rattle.resin_sql.specs.Statements as spec
use Rattle.resin_sql.proofs.statement.more_changes.Given as goal

abbrev pub invariant-turns : goal.invariant-turns
invariant-turns l = under (spec.more_changes (l.done, l.free)) l.bytes ≡ under (spec.more_changes (l.initial.done, l.initial.free)) l.initial.bytes

abbrev pub decreases-turns : goal.decreases-turns
decreases-turns l = length l.bytes
