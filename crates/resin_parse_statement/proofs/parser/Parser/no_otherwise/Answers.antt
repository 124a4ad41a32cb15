use Rattle.std.proofs.Common.{◌≡◌, true, Some, None}
use Rattle.std.proofs.Common.{rules as std_rules}
use Rattle.resin_program_grammar.specs.Plain.{begins_statement}
use Rattle.resin_parse_plain.specs.Lines.{line_in}
use Rattle.resin_parse_statement.proofs.Opened.{no_otherwise, deep_otherwise}
use Rattle.resin_parse_statement.proofs.parser.Parser.no_otherwise.Goals as goal
use Rattle.resin_parse_statement.proofs.parser.Parser.no_otherwise.Goals.{in_default-via-in-Some+else-begins_statement, in_default-via-in_default}

pub returns-in-Some : goal.returns-in-Some
returns-in-Some g c =
    let h : begins_statement c.args.around.in_loop c.in-Some.next.now ≡ true = search std_rules in
    deep_otherwise (line_in c.args.self.now.reader.lines.now) c.args.self.now.reader.depth c.args.around c.args.chain c.in-Some.next.now c.skip.new.self c.args.tokens.now c.requires c.skip.ensures h

pub returns-in_default : goal.returns-in_default
returns-in_default g c = elim c.in_default.branch [
  | in_default-via-in-Some+else-begins_statement arm ↦ no_otherwise (line_in c.args.self.now.reader.lines.now) c.args.self.now.reader.depth c.args.around c.args.chain c.args.tokens.now c.else_end.new.tokens c.else_end.result (Some arm.in-Some.next.now) c.requires (search std_rules) (λ t e. let same : t ≡ arm.in-Some.next.now = cc in rw same (search std_rules)) c.else_end.ensures
  | in_default-via-in_default arm ↦ no_otherwise (line_in c.args.self.now.reader.lines.now) c.args.self.now.reader.depth c.args.around c.args.chain c.args.tokens.now c.else_end.new.tokens c.else_end.result None c.requires (search std_rules) (λ t e. cc) c.else_end.ensures
]
