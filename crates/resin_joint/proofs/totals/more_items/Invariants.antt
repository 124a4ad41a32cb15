use Rattle.std.proofs.Common.{◌≡◌, length}
use Rattle.resin_sql_words.specs.Forms.{under}
use Rattle.resin_joint.specs.Totals as spec
use Rattle.resin_joint.proofs.totals.more_items.Given as goal

abbrev pub invariant-turns : goal.invariant-turns
invariant-turns l = under (spec.more_items l.done) l.bytes ≡ under (spec.more_items l.initial.done) l.initial.bytes

abbrev pub decreases-turns : goal.decreases-turns
decreases-turns l = length l.bytes
