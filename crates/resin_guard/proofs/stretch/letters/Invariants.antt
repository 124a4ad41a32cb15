use Rattle.std.proofs.Common.{◌≡◌, drop}
use Rattle.resin_sql_words.specs.Words as spec
use Rattle.resin_sql_words.specs.Forms.{under}
use Rattle.resin_guard.proofs.stretch.letters.Given as goal

abbrev pub invariant-turns : goal.invariant-turns
invariant-turns l = under (spec.letters (drop l.letter-index l.word)) l.bytes ≡ under (spec.letters l.word) l.initial.bytes
