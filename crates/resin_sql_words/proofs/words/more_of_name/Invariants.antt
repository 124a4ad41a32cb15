use Rattle.std.proofs.Common.{◌≡◌, length}
use Rattle.resin_sql_words.specs.Words as spec
use Rattle.resin_sql_words.specs.Forms.{under}
use Rattle.resin_sql_words.proofs.words.more_of_name.Given as goal

abbrev pub invariant-turns : goal.invariant-turns
invariant-turns l = under (spec.more_of_name l.word) l.bytes ≡ under (spec.more_of_name l.initial.word) l.initial.bytes

abbrev pub decreases-turns : goal.decreases-turns
decreases-turns l = length l.bytes
