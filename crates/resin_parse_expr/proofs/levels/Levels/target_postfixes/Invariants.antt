use Rattle.std.proofs.Common.{◌≡◌, length}
use Rattle.resin_grammar.specs.Expressions as spec
use Rattle.resin_grammar.specs.Reading.{under}
use Rattle.resin_parse_expr.proofs.levels.Levels.target_postfixes.Given as goal

-- what is still to be read comes to what the whole loop does
abbrev pub invariant-turns : goal.invariant-turns
invariant-turns g l = under l.self.parser.depth (spec.target_postfixes l.operand) l.tokens ≡ under l.self.parser.depth (spec.target_postfixes l.initial.operand) l.initial.tokens

abbrev pub decreases-turns : goal.decreases-turns
decreases-turns g l = length l.tokens
