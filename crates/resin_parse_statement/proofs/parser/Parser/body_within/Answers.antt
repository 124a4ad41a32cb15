use Rattle.std.proofs.Common.{◌≡◌, true, Some, Err, sym, ◌∙◌, ap, subst}
use Rattle.std.proofs.Common.{rules as std_rules}
use Rattle.std.proofs.lemmas.Result.{err_from_is_err_and}
use Rattle.resin_form.specs.Reading.{Got, and_then}
use Rattle.resin_form.specs.Reads.{Reads, first}
use Rattle.resin_program_grammar.specs.Plain.{begins_statement}
use Rattle.resin_program_grammar.specs.Reading.{under}
use Rattle.resin_program_grammar.specs.Statements.{one_body}
use Rattle.resin_parse_plain.specs.Lines.{line_in}
use Rattle.resin_parse_statement.proofs.Opened.{first_fails}
use Rattle.resin_parse_statement.proofs.Ahead.{body_here}
use Rattle.resin_parse_statement.proofs.parser.Parser.body_within.Goals as goal

pub returns-in_err-body_statement-in-Some : goal.returns-in_err-body_statement-in-Some
returns-in_err-body_statement-in-Some g c =
    let p = err_from_is_err_and c.from_residual.result c.from_residual.ensures.1 in
    let f : first c.args.tokens.now ≡ Some c.in-Some.next.now = search std_rules in
    let s : begins_statement c.args.around.in_loop c.in-Some.next.now ≡ true = search std_rules in
    rw (p.1, p.2) (subst (λ o. Reads o (Err c.in_err-body_statement-in-Some.field-0.0) c.body_statement.new.tokens)
    (sym (body_here (line_in c.args.self.now.reader.lines.now) c.args.self.now.reader.depth c.args.around c.in-Some.next.now c.args.tokens.now f s))
    (first_fails (under (line_in c.args.self.now.reader.lines.now) c.args.self.now.reader.depth (one_body (line_in c.args.self.now.reader.lines.now) c.args.around) c.args.tokens.now) (λ st rest. Got (Some st) rest) c.in_err-body_statement-in-Some.field-0.0 c.body_statement.new.tokens c.in_err-body_statement-in-Some.ensures))

pub returns-in_ok-body_statement-in-Some : goal.returns-in_ok-body_statement-in-Some
returns-in_ok-body_statement-in-Some g c =
    let f : first c.args.tokens.now ≡ Some c.in-Some.next.now = search std_rules in
    let s : begins_statement c.args.around.in_loop c.in-Some.next.now ≡ true = search std_rules in
    body_here (line_in c.args.self.now.reader.lines.now) c.args.self.now.reader.depth c.args.around c.in-Some.next.now c.args.tokens.now f s
    ∙ ap (λ o. and_then o (λ st rest. Got (Some st) rest)) c.in_ok-body_statement-in-Some.ensures
