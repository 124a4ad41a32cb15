use Rattle.std.proofs.Common.{◌≡◌, ◌≤◌, length}
use Rattle.resin_sql_words.specs.Literals as spec
use Rattle.resin_sql_words.specs.Forms.{under}
use Rattle.resin_sql_words.proofs.literals.more_digits.Given as goal

abbrev pub invariant-turns : goal.invariant-turns
invariant-turns l = (under (spec.more_digits l.greatest (l.value, l.to)) l.bytes ≡ under (spec.more_digits l.greatest (l.initial.value, l.initial.to)) l.initial.bytes) × (l.value ≤ l.greatest)

abbrev pub decreases-turns : goal.decreases-turns
decreases-turns l = length l.bytes
