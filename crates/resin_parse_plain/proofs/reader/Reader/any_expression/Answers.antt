use Rattle.std.proofs.Common.{◌≡◌, true, Some, None}
use Rattle.std.proofs.Common.{rules as std_rules}
use Rattle.resin_form.specs.Reads.{first}
use Rattle.resin_form.specs.Form.{give}
use Rattle.resin_program_grammar.specs.Plain as spec
use Rattle.resin_program_grammar.specs.Start.{begins}
use Rattle.resin_program_grammar.specs.Combine.{expression}
use Rattle.resin_parse_plain.specs.Lines.{line_in}
use Rattle.resin_parse_plain.proofs.Optional.{takes, passes}
use Rattle.resin_parse_plain.proofs.reader.Reader.any_expression.Goals as goal
use Rattle.resin_parse_plain.proofs.reader.Reader.any_expression.Goals.{in_default-via-in-Some+else-begins_expression, in_default-via-in_default}

pub returns-in-Some : goal.returns-in-Some
unfolding spec.any_expression spec.some_expression
returns-in-Some c =
    let e : first c.args.tokens.now ≡ Some c.in-Some.next.now = search std_rules in
    let h : begins expression c.in-Some.next.now ≡ true = search std_rules in
    takes (line_in c.args.self.now.lines.now) c.args.self.now.depth expression (λ e. give (Some e)) None c.in-Some.next.now c.args.tokens.now c.some_expression.new.tokens c.some_expression.result e h c.some_expression.ensures

pub returns-in_default : goal.returns-in_default
unfolding spec.any_expression
returns-in_default c = elim c.in_default.branch [
  | in_default-via-in-Some+else-begins_expression arm ↦ passes (line_in c.args.self.now.lines.now) c.args.self.now.depth expression (λ e. give (Some e)) None
      (Some arm.in-Some.next.now) c.args.tokens.now (search std_rules) (λ t e. let same : t ≡ arm.in-Some.next.now = cc in rw same (search std_rules))
  | in_default-via-in_default arm ↦ passes (line_in c.args.self.now.lines.now) c.args.self.now.depth expression (λ e. give (Some e)) None
      None c.args.tokens.now (search std_rules) (λ t e. cc)
]
