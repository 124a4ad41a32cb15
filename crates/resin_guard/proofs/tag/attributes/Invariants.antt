use Rattle.std.proofs.Common.{◌≡◌, length}
use Rattle.resin_sql_words.specs.Forms.{under}
use Rattle.resin_guard.specs.Pages as spec
use Rattle.resin_guard.proofs.tag.attributes.Given as goal

abbrev pub invariant-turns : goal.invariant-turns
invariant-turns l = under (spec.attributes l.safe (l.places, l.gap)) l.bytes ≡ under (spec.attributes l.safe (l.initial.places, l.initial.gap)) l.initial.bytes

abbrev pub decreases-turns : goal.decreases-turns
decreases-turns l = length l.bytes
