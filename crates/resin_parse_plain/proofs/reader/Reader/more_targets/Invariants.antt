use Rattle.std.proofs.Common.{◌≡◌, length}
use Rattle.resin_program_grammar.specs.Plain as spec
use Rattle.resin_program_grammar.specs.Reading.{under}
use Rattle.resin_parse_plain.specs.Lines.{line_in}
use Rattle.resin_parse_plain.proofs.reader.Reader.more_targets.Given as goal

-- what is still to be read comes to what the whole loop does
abbrev pub invariant-turns : goal.invariant-turns
invariant-turns l = under (line_in l.self.lines.now) l.self.depth (spec.more_targets l.targets) l.tokens ≡ under (line_in l.self.lines.now) l.self.depth (spec.more_targets l.initial.targets) l.initial.tokens

abbrev pub decreases-turns : goal.decreases-turns
decreases-turns l = length l.tokens
