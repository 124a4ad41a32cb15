use Rattle.std.proofs.Common.{◌≡◌, length}
use Rattle.resin_sql_words.specs.Forms.{under}
use Rattle.resin_guard.specs.Pages as spec
use Rattle.resin_guard.proofs.tag.more_of_name.Given as goal

abbrev pub invariant-turns : goal.invariant-turns
invariant-turns l = under (spec.more_of_name l.of_attribute l.word) l.bytes ≡ under (spec.more_of_name l.of_attribute l.initial.word) l.initial.bytes

abbrev pub decreases-turns : goal.decreases-turns
decreases-turns l = length l.bytes
