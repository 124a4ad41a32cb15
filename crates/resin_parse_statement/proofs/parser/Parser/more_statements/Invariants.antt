use Rattle.std.proofs.Common.{◌≡◌, length}
use Rattle.resin_program_grammar.specs.Statements as spec
use Rattle.resin_program_grammar.specs.Reading.{under}
use Rattle.resin_parse_plain.specs.Lines.{line_in}
use Rattle.resin_parse_statement.proofs.parser.Parser.more_statements.Given as goal

-- what is still to be read comes to what the whole loop does
abbrev pub invariant-turns : goal.invariant-turns
invariant-turns g l = under (line_in l.self.reader.lines.now) l.self.reader.depth (spec.more_statements (line_in l.self.reader.lines.now) l.around l.read) l.tokens ≡ under (line_in l.self.reader.lines.now) l.self.reader.depth (spec.more_statements (line_in l.self.reader.lines.now) l.around l.initial.read) l.initial.tokens

abbrev pub decreases-turns : goal.decreases-turns
decreases-turns g l = length l.tokens
