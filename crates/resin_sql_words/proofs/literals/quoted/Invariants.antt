use Rattle.std.proofs.Common.{◌≡◌, length}
use Rattle.resin_sql_words.specs.Literals as spec
use Rattle.resin_sql_words.specs.Forms.{under}
use Rattle.resin_sql_words.proofs.literals.quoted.Given as goal

abbrev pub invariant-turns : goal.invariant-turns
invariant-turns l = under (spec.quoted l.closed) l.bytes ≡ under (spec.quoted l.initial.closed) l.initial.bytes

abbrev pub decreases-turns : goal.decreases-turns
decreases-turns l = length l.bytes
