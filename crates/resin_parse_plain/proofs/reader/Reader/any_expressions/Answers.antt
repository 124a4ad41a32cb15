use Rattle.std.proofs.Common.{◌≡◌, true, Some, None, [], ◌∷◌}
use Rattle.std.proofs.Common.{rules as std_rules}
use Rattle.resin_form.specs.Reads.{first}
use Rattle.resin_program_grammar.specs.Plain as spec
use Rattle.resin_program_grammar.specs.Start.{begins}
use Rattle.resin_program_grammar.specs.Combine.{expression}
use Rattle.resin_parse_plain.specs.Lines.{line_in}
use Rattle.resin_parse_plain.proofs.Optional.{takes, passes}
use Rattle.resin_parse_plain.proofs.reader.Reader.any_expressions.Goals as goal
use Rattle.resin_parse_plain.proofs.reader.Reader.any_expressions.Goals.{in_default-via-in-Some+else-begins_expression, in_default-via-in_default}

pub returns-in-Some : goal.returns-in-Some
unfolding spec.any_expressions spec.expressions
returns-in-Some c =
    let e : first c.args.tokens.now ≡ Some c.in-Some.next.now = search std_rules in
    let h : begins expression c.in-Some.next.now ≡ true = search std_rules in
    takes (line_in c.args.self.now.lines.now) c.args.self.now.depth expression (λ e. spec.more_expressions (e ∷ [])) [] c.in-Some.next.now c.args.tokens.now c.expressions.new.tokens c.expressions.result e h c.expressions.ensures

pub returns-in_default : goal.returns-in_default
unfolding spec.any_expressions
returns-in_default c = elim c.in_default.branch [
  | in_default-via-in-Some+else-begins_expression arm ↦ rw c.new.ensures (passes (line_in c.args.self.now.lines.now) c.args.self.now.depth expression (λ e. spec.more_expressions (e ∷ [])) []
      (Some arm.in-Some.next.now) c.args.tokens.now (search std_rules) (λ t e. let same : t ≡ arm.in-Some.next.now = cc in rw same (search std_rules)))
  | in_default-via-in_default arm ↦ rw c.new.ensures (passes (line_in c.args.self.now.lines.now) c.args.self.now.depth expression (λ e. spec.more_expressions (e ∷ [])) []
      None c.args.tokens.now (search std_rules) (λ t e. cc))
]
