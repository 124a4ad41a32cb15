use Rattle.std.proofs.Common.{◌≡◌, true, Some, None, [], ◌∷◌}
use Rattle.std.proofs.Common.{rules as std_rules}
use Rattle.resin_form.specs.Reads.{first}
use Rattle.resin_program_grammar.specs.Declarations as spec
use Rattle.resin_program_grammar.specs.Start.{begins}
use Rattle.resin_parse_plain.specs.Lines.{line_in}
use Rattle.resin_parse_plain.proofs.Optional.{takes, passes}
use Rattle.resin_parse_plain.proofs.reader.Reader.parameters.Goals as goal
use Rattle.resin_parse_plain.proofs.reader.Reader.parameters.Goals.{in_default-via-in-Some+else-begins_parameter, in_default-via-in_default}

pub returns-in-Some : goal.returns-in-Some
unfolding spec.parameters spec.some_parameters
returns-in-Some c =
    let e : first c.args.tokens.now ≡ Some c.in-Some.next.now = search std_rules in
    let h : begins spec.parameter c.in-Some.next.now ≡ true = search std_rules in
    takes (line_in c.args.self.now.lines.now) c.args.self.now.depth spec.parameter (λ p. spec.more_parameters (p ∷ [])) [] c.in-Some.next.now c.args.tokens.now c.some_parameters.new.tokens c.some_parameters.result e h c.some_parameters.ensures

pub returns-in_default : goal.returns-in_default
unfolding spec.parameters
returns-in_default c = elim c.in_default.branch [
  | in_default-via-in-Some+else-begins_parameter arm ↦ rw c.new.ensures (passes (line_in c.args.self.now.lines.now) c.args.self.now.depth spec.parameter (λ p. spec.more_parameters (p ∷ [])) []
      (Some arm.in-Some.next.now) c.args.tokens.now (search std_rules) (λ t e. let same : t ≡ arm.in-Some.next.now = cc in rw same (search std_rules)))
  | in_default-via-in_default arm ↦ rw c.new.ensures (passes (line_in c.args.self.now.lines.now) c.args.self.now.depth spec.parameter (λ p. spec.more_parameters (p ∷ [])) []
      None c.args.tokens.now (search std_rules) (λ t e. cc))
]
