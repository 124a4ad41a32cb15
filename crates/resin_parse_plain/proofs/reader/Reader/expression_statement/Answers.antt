use Rattle.std.proofs.Common.{◌≡◌, true, Some, None, [], subst}
use Rattle.std.proofs.Common.{rules as std_rules}
use Rattle.resin_form.specs.Reads.{Reads, first}
use Rattle.resin_tree.specs.declared.statement.Simple.TheVariants as simple
use Rattle.resin_program_grammar.specs.Combine.{expression}
use Rattle.resin_program_grammar.specs.Plain as spec
use Rattle.resin_program_grammar.specs.Reading.{under}
use Rattle.resin_program_grammar.specs.Start.{begins}
use Rattle.resin_program_grammar.specs.Trees as tree
use Rattle.resin_parse_plain.specs.Lines.{line_in}
use Rattle.resin_parse_plain.proofs.Optional.{from_first, no_first}
use Rattle.resin_parse_plain.proofs.reader.Reader.expression_statement.Goals as goal
use Rattle.resin_parse_plain.proofs.reader.Reader.expression_statement.Goals.{in_default-via-in-Some+else-begins_expression, in_default-via-in_default}

pub returns-in-Some : goal.returns-in-Some
unfolding spec.whole_expression_statement spec.expression_statement spec.done
returns-in-Some c =
    let e : first c.args.tokens.now ≡ Some c.in-Some.next.now = search std_rules in
    let h : begins expression c.in-Some.next.now ≡ true = search std_rules in
    let l : c.line_of.result ≡ line_in c.args.self.now.lines.now c.in-Some.next.now = c.line_of.ensures in
    from_first (line_in c.args.self.now.lines.now) c.args.self.now.depth expression (λ t e. spec.ended (line_in c.args.self.now.lines.now t) (simple.Do e)) (λ t. tree.block (line_in c.args.self.now.lines.now t) [])
    c.in-Some.next.now c.args.tokens.now c.done.new.tokens c.done.result e h
    (subst (λ n. Reads (under (line_in c.args.self.now.lines.now) c.args.self.now.depth (spec.done n) c.args.tokens.now) c.done.result c.done.new.tokens) l c.done.ensures)

pub returns-in_default : goal.returns-in_default
unfolding spec.whole_expression_statement spec.expression_statement
returns-in_default c = elim c.in_default.branch [
  | in_default-via-in-Some+else-begins_expression arm ↦ no_first (line_in c.args.self.now.lines.now) c.args.self.now.depth expression (λ t e. spec.ended (line_in c.args.self.now.lines.now t) (simple.Do e)) (λ t. tree.block (line_in c.args.self.now.lines.now t) [])
      (Some arm.in-Some.next.now) c.args.tokens.now (search std_rules) (λ t e. let same : t ≡ arm.in-Some.next.now = cc in rw same (search std_rules))
  | in_default-via-in_default arm ↦ no_first (line_in c.args.self.now.lines.now) c.args.self.now.depth expression (λ t e. spec.ended (line_in c.args.self.now.lines.now t) (simple.Do e)) (λ t. tree.block (line_in c.args.self.now.lines.now t) [])
      None c.args.tokens.now (search std_rules) (λ t e. cc)
]
