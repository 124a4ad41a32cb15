use Rattle.std.proofs.Common.{◌≡◌, true, false, Some, None, sym, subst}
use Rattle.std.proofs.Common.{rules as std_rules}
use Rattle.std.specs.Prelude.{is_some}
use Rattle.resin_form.specs.Reads.{Reads, first}
use Rattle.resin_program_grammar.specs.Leads.{inline_of, plain_of, compound_of}
use Rattle.resin_program_grammar.specs.Plain.{begins_statement, plain_statement}
use Rattle.resin_program_grammar.specs.Reading.{under, behind}
use Rattle.resin_program_grammar.specs.Statements.{compound_statement, left_nothing}
use Rattle.resin_parse_plain.specs.Lines.{line_in}
use Rattle.resin_parse_statement.proofs.Ahead.{inline_here, plain_here, compound_here, expression_here}
use Rattle.resin_parse_statement.proofs.parser.Parser.one_statement.Goals as goal

pub returns-then-is_inline : goal.returns-then-is_inline
returns-then-is_inline g c =
    let f : first c.args.tokens.now ≡ Some c.in-Some.next.now = search std_rules in
    let s : begins_statement c.args.around.in_loop c.in-Some.next.now ≡ true = search std_rules in
    let h : is_some (inline_of c.in-Some.next.now.kind) ≡ true = search std_rules in
    subst (λ o. Reads o c.inline_statement.result c.inline_statement.new.tokens)
    (sym (inline_here (line_in c.args.self.now.reader.lines.now) c.args.self.now.reader.depth c.args.around c.in-Some.next.now c.args.tokens.now f s h)) c.inline_statement.ensures

pub returns-in-Some-plain_of : goal.returns-in-Some-plain_of
returns-in-Some-plain_of g c =
    let f : first c.args.tokens.now ≡ Some c.in-Some.next.now = search std_rules in
    let s : begins_statement c.args.around.in_loop c.in-Some.next.now ≡ true = search std_rules in
    let h : is_some (inline_of c.in-Some.next.now.kind) ≡ false = search std_rules in
    let k : plain_of c.args.around.in_loop c.in-Some.next.now.kind ≡ Some c.in-Some-plain_of.plain = search std_rules in
    let q : c.line_of-line.result ≡ (line_in c.args.self.now.reader.lines.now) c.in-Some.next.now = search std_rules in
    subst (λ o. Reads o c.plain_statement.result c.plain_statement.new.tokens)
    (sym (plain_here (line_in c.args.self.now.reader.lines.now) c.args.self.now.reader.depth c.args.around c.in-Some.next.now c.args.tokens.now f s c.in-Some-plain_of.plain c.skip.new.self c.skip.ensures h k))
    (subst (λ n. Reads (under (line_in c.args.self.now.reader.lines.now) c.args.self.now.reader.depth (left_nothing (line_in c.args.self.now.reader.lines.now) (plain_statement n c.in-Some-plain_of.plain)) c.skip.new.self) c.plain_statement.result c.plain_statement.new.tokens) q c.plain_statement.ensures)

pub returns-in-Some-compound_of : goal.returns-in-Some-compound_of
returns-in-Some-compound_of g c =
    let f : first c.args.tokens.now ≡ Some c.in-Some.next.now = search std_rules in
    let s : begins_statement c.args.around.in_loop c.in-Some.next.now ≡ true = search std_rules in
    let h : is_some (inline_of c.in-Some.next.now.kind) ≡ false = search std_rules in
    let k : plain_of c.args.around.in_loop c.in-Some.next.now.kind ≡ None = search std_rules in
    let m : compound_of c.in-Some.next.now.kind ≡ Some c.in-Some-compound_of.compound = search std_rules in
    let q : c.line_of-line.result ≡ (line_in c.args.self.now.reader.lines.now) c.in-Some.next.now = search std_rules in
    subst (λ o. Reads o c.compound_statement.result c.compound_statement.new.tokens)
    (sym (compound_here (line_in c.args.self.now.reader.lines.now) c.args.self.now.reader.depth c.args.around c.in-Some.next.now c.args.tokens.now f s c.in-Some-compound_of.compound c.skip-in-Some-compound_of.new.self c.skip-in-Some-compound_of.ensures h k m))
    (subst (λ n. Reads (behind (line_in c.args.self.now.reader.lines.now) c.args.self.now.reader.depth (compound_statement (line_in c.args.self.now.reader.lines.now) c.args.around n c.in-Some-compound_of.compound) c.skip-in-Some-compound_of.new.self) c.compound_statement.result c.compound_statement.new.tokens) q c.compound_statement.ensures)

pub returns-in-None : goal.returns-in-None
returns-in-None g c =
    let f : first c.args.tokens.now ≡ Some c.in-Some.next.now = search std_rules in
    let s : begins_statement c.args.around.in_loop c.in-Some.next.now ≡ true = search std_rules in
    let h : is_some (inline_of c.in-Some.next.now.kind) ≡ false = search std_rules in
    let k : plain_of c.args.around.in_loop c.in-Some.next.now.kind ≡ None = search std_rules in
    let m : compound_of c.in-Some.next.now.kind ≡ None = search std_rules in
    subst (λ o. Reads o c.expression_statement.result c.expression_statement.new.tokens)
    (sym (expression_here (line_in c.args.self.now.reader.lines.now) c.args.self.now.reader.depth c.args.around c.in-Some.next.now c.args.tokens.now f s h k m)) c.expression_statement.ensures
