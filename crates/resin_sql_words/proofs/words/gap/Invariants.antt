use Rattle.std.proofs.Common.{◌≡◌, length}
use Rattle.resin_sql_words.specs.Words as spec
use Rattle.resin_sql_words.specs.Forms.{under}
use Rattle.resin_sql_words.proofs.words.gap.Given as goal

abbrev pub invariant-turns : goal.invariant-turns
invariant-turns l = under (spec.gap_from l.some) l.bytes ≡ under (spec.gap_from l.initial.some) l.initial.bytes

abbrev pub decreases-turns : goal.decreases-turns
decreases-turns l = length l.bytes
