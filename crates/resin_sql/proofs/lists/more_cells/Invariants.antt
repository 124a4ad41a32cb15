use Rattle.std.proofs.Common.{◌≡◌, length}
use Rattle.resin_sql_words.specs.Forms.{under}
use Rattle.resin_sql.specs.Statements as spec
use Rattle.resin_sql.proofs.lists.more_cells.Given as goal

abbrev pub invariant-turns : goal.invariant-turns
invariant-turns l = under (spec.more_cells l.done) l.bytes ≡ under (spec.more_cells l.initial.done) l.initial.bytes

abbrev pub decreases-turns : goal.decreases-turns
decreases-turns l = length l.bytes
