use Rattle.std.proofs.Common.{◌≡◌, length}
use Rattle.resin_source_table.specs.Parity as spec
use Rattle.resin_source_table.specs.Parity.{under}
use Rattle.resin_source_table.proofs.parity.Parser.more.Given as goal

-- what is still to be read comes to what the whole loop does
abbrev pub invariant-turns : goal.invariant-turns
invariant-turns g l = under l.self.depth (spec.more l.odd) l.signs ≡ under l.self.depth (spec.more l.initial.odd) l.initial.signs

abbrev pub decreases-turns : goal.decreases-turns
decreases-turns g l = length l.signs
